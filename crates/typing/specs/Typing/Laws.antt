-- What an answer of the second pass says.
use Rattle.std.specs.Prelude.{Err, Ok, Result, Bool, true, false, ◌≡◌, refl, List, [], ℕ, ◌+◌, ◌≤◌, ◌<◌, leb, eqb, length}
use Rattle.std.proofs.Common.{inl, inr, sym, ap, ◌∙◌, arith, le-leb, eqb-true}
use Rattle.std.proofs.lemmas.Bool.{lt-leb, eqb-false}
use Rattle.stream.specs.declared.Fault.{Fault}
use Rattle.stream.specs.declared.Fault.TheVariants.{TypeTooLarge}
use Rattle.stream.specs.Types.{Ty, size, type_limit, Small}
use Rattle.stream.proofs.Types.Laws.{limit_is}
use Rattle.stream.specs.Reading.{Result as Outcome, accepted, refused, require}
use Rattle.stream.specs.TypeFiles.{type_bytes}
use Rattle.reading.specs.Places.{TypePlace}
use Rattle.reading.specs.TypeReads.{TypeIn, SomeTypeIn}
use Rattle.reading.specs.TypeReads.Laws.{type_width}
use Rattle.reading.specs.Nesting.{Piece}
use Rattle.reading.specs.Nesting.Laws.{type_piece}
use Rattle.writing.specs.Appending.{PartDue}
use Rattle.writing.specs.Appending.Laws.{WrittenSoFar, part_due}
use Rattle.writing.specs.Writing.Standing.{TypeHeld, type_held}
use Rattle.node.specs.Nodes.{Node}
use Rattle.node.proofs.Nodes.Laws.{output_small}
use Rattle.node.specs.Checking.{gives, typing}
use Rattle.node.proofs.Checking.Laws.{gives_accepted, typing_sound}
use Rattle.node.specs.Nodes.Functions.{Carries}
use Rattle.patch_reading.specs.PatchReads.{node_width}
use Rattle.typing.specs.Typing.{typed_at, typed, limited, Answers, Marks, TypingDue, TypesNode}
use Rattle.typing.specs.declared.Typed.{Typed}

-- A type in its place is a piece of the bytes, and can be written behind a kind byte and another type.

pub type_in_piece : {types : List ℕ} {place : TypePlace} {t : Ty} → TypeIn types place t
    → Piece types place.start place.end (type_bytes t [])
type_in_piece here = type_piece here.stands here.ends

pub copy_due : {types : List ℕ} {place : TypePlace} {written : ℕ} → SomeTypeIn types place → written ≤ 256
    → PartDue types place.start place.end written
copy_due some few = part_due (type_in_piece some.here) (omega (arith, limit_is, type_width some.type, some.here.stands.small))

-- Only 16 and 17 stand between them.
pub marks_between : (k : ℕ) → 16 ≤ k → k ≤ 17 → Marks k
marks_between k low high = go (eqb k 16) refl
  where
    go : (b : Bool) → eqb k 16 ≡ b → Marks k
    go true e = inl (eqb-true k 16 e)
    go false e = let other = eqb-false k 16 e in inr (omega arith)

-- What is told of a type given

pub limited_small : (end : ℕ) {n : ℕ} → n ≤ type_limit → limited end n ≡ Ok (typed_at end n)
unfolding limited
limited_small end {n} h = rw (limited, le-leb n type_limit h)

pub limited_large : (end : ℕ) {n : ℕ} → type_limit < n → limited end n ≡ Err TypeTooLarge
unfolding limited
limited_large end {n} h = rw (limited, lt-leb n type_limit h)

pub typed-gives : (end : ℕ) (t : Ty) → typed end (gives t) ≡ limited end (size t)
unfolding typed gives limited
typed-gives end t = go (leb (size t) type_limit)
  where
    go : (b : Bool) → typed end (require b TypeTooLarge (accepted t)) ≡ elim b [ true ↦ Ok (typed_at end (size t)) | false ↦ Err TypeTooLarge ]
    go true = refl
    go false = refl

pub typing_small : (s : Ty) (n : Node) {t : Ty} → Carries n → typing s n ≡ accepted t → Small t
typing_small s n {t} carries e = let d = typing_sound s n t carries e in output_small d.types d.fits

-- What an answer says of the outcome

pub record IsGiven (end next n : ℕ) (outcome : Outcome Ty) : Type 0 where
  pub type : Ty
  pub given : outcome ≡ accepted type
  pub ends : next ≡ end
  pub sized : n ≡ size type

pub is_given : {next n : ℕ} (end : ℕ) (outcome : Outcome Ty) → Ok (typed_at next n) ≡ typed end outcome → IsGiven end next n outcome
unfolding typed
is_given {next} {n} end (accepted t) e =
    let same : typed_at next n ≡ typed_at end (size t) = cc in
    record { type = t; given = refl; ends = ap (λ g. g.end) same; sized = ap (λ g. g.size) same }
is_given end (refused f) e = absurd (cc)

pub is_refused : {fault : Fault} (end : ℕ) (outcome : Outcome Ty) → Err fault ≡ typed end outcome → outcome ≡ refused fault
unfolding typed
is_refused end (accepted t) e = cc
is_refused end (refused f) e = cc

-- Answers

pub answers_refused : {end : ℕ} {fault : Fault} {lent now : List ℕ} → length now ≡ length lent
    → Answers end (refused fault) lent now (Err fault)
unfolding typed
answers_refused kept = record { answers = refl; long = kept; writes = λ t e. absurd (cc) }

pub answers_written : {end n : ℕ} {pieces lent now : List ℕ} (t : Ty) → WrittenSoFar pieces lent now n → pieces ≡ type_bytes t []
    → Answers end (gives t) lent now (limited end n)
answers_written {end} {n} t so_far all =
    record {
      answers = ap (limited end) sized ∙ sym (typed-gives end t);
      long = so_far.holds.long;
      writes = λ u e. rw (← (gives_accepted t u e).0, ← all) so_far.holds;
    }
  where
    sized : n ≡ size t
    sized = sym so_far.long ∙ ap length all ∙ type_width t

pub answers_small : {end n : ℕ} {pieces lent now : List ℕ} (t : Ty) → Small t → WrittenSoFar pieces lent now n → pieces ≡ type_bytes t []
    → Answers end (gives t) lent now (Ok (typed_at end n))
answers_small {end} {n} t small so_far all =
    rw (← limited_small end {n = n} (omega (arith, small, so_far.long, ap length all, type_width t))) (answers_written t so_far all)

-- What has to hold does not, or does.
pub requires_fails : {end : ℕ} {b : Bool} {fault : Fault} (r : Outcome Ty) {lent now : List ℕ} → b ≡ false → length now ≡ length lent
    → Answers end (require b fault r) lent now (Err fault)
requires_fails r e kept = rw e (answers_refused kept)

pub requires_holds : {end : ℕ} {b : Bool} (fault : Fault) {r : Outcome Ty} {lent now : List ℕ} {answer : Result Typed Fault} → b ≡ true
    → Answers end r lent now answer → Answers end (require b fault r) lent now answer
requires_holds fault e answered = rw e answered

-- A node typed on work bytes that have room for every type has given one of `many` nodes: it is held at their front.

pub record HasGiven (types : List ℕ) (place : TypePlace) (nodes : List ℕ) (from : ℕ) (held : List ℕ) (next many : ℕ) : Type 0 where
  pub lent : List ℕ
  pub room : 255 ≤ length lent
  pub answer : Result Typed Fault
  pub typed : TypesNode types place nodes from lent held answer
  pub told : answer ≡ Ok (typed_at next many)

pub has_given : {types : List ℕ} {place : TypePlace} {nodes : List ℕ} {from : ℕ} {lent held : List ℕ} {answer : Result Typed Fault} {next many : ℕ} → length lent ≡ 255
    → TypesNode types place nodes from lent held answer → answer ≡ Ok (typed_at next many) → HasGiven types place nodes from held next many
has_given {lent = lent} {answer = answer} long typed told =
    record { lent = lent; room = omega (arith, long); answer = answer; typed = typed; told = told }

pub record GivenType {types : List ℕ} {place : TypePlace} {nodes : List ℕ} {from : ℕ} (due : TypingDue types place nodes from) (held : List ℕ) (next many : ℕ) : Type 0 where
  pub type : Ty
  pub is_accepted : typing due.type due.node ≡ accepted type
  pub ends : next ≡ from + node_width due.node
  pub small : Small type
  pub holds : TypeHeld type held many

pub given_type : {types : List ℕ} {place : TypePlace} {nodes : List ℕ} {from : ℕ} {held : List ℕ} {next many : ℕ} → HasGiven types place nodes from held next many
    → (due : TypingDue types place nodes from) → GivenType due held next many
given_type {many = many} given due =
    let a = given.typed.each due in
    let g = is_given _ _ (sym given.told ∙ a.answers) in
    let small = typing_small due.type due.node due.node_at.carries g.given in
    record {
      type = g.type;
      is_accepted = g.given;
      ends = g.ends;
      small = small;
      holds = type_held g.type small given.room (a.writes g.type g.given) many g.sized;
    }

-- Where it lies.
pub held_in : {t : Ty} {held : List ℕ} {many : ℕ} {lies : TypePlace} → TypeHeld t held many → lies ≡ record { start = 0; end = many } → TypeIn held lies t
held_in held is_place = rw is_place (record { stands = held.stands; ends = omega (arith, held.sized) })
