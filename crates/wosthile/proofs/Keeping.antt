-- How the answers of the code keep the promises: a refusal writes nothing, 20 comes where the file does not fit, and an
-- accepted file stands at the front of what was lent.
use mathlib.Core.Path.{◌≡◌, sym, ap, ◌∙◌}
use mathlib.Core.Bool.{Bool}
use mathlib.Core.List.{List, []}
use Prim.Native.Nat.{ℕ, ◌+◌, ◌≤◌, ◌<◌}
use native.Mathlib.Omega.{arith}
use lib.ListN.{length, take}
use lib.Seq.{length-take-le}
use borrow.Author.Tests.{le-leb, lt-leb}
use Rattle.std.specs.Prelude.{Result, Ok, Err, ◌⊎◌}
use Rattle.std.proofs.Common.{inl, inr}
use Rattle.std.proofs.lemmas.Bool.{cases_lt}
use Rattle.stream.specs.declared.Fault.{Fault}
use Rattle.stream.specs.declared.Fault.TheVariants.{NoRoom}
use Rattle.stream.specs.Prefixes.{Prefix, arrivals}
use Rattle.stream.specs.Prefixes.Functions.{complete}
use Rattle.stream.specs.Types.{Ty}
use Rattle.stream.specs.Reading.{Result as Outcome, accepted, refused, section_bytes}
use Rattle.stream.proofs.Reading.Laws.{section_length}
use Rattle.stream.specs.TypeFiles.{type_file_bytes}
use Rattle.stream.proofs.TypeFiles.Held.{Holds}
use Rattle.stream.specs.Buffers.{at_front}
use Rattle.meaning.specs.Answers.{with_room, after, written, admitted}
use Rattle.meaning.specs.Promises.{Writes, Admits}
use Rattle.meaning.specs.Told.{told, told_taken}
use Rattle.meaning.specs.declared.Taken.{Taken}
use Rattle.wosthile.specs.PatchWriting.{PutsFile}

-- A type of `many` nodes stands at the front of work bytes.
pub record InFront (t : Ty) (work : List ℕ) (many : ℕ) : Type 0 where
  pub inside : many ≤ length work
  pub long : many ≡ length (take many work)
  pub holds : Holds (take many work) t

pub in_front : {t : Ty} {work : List ℕ} {many : ℕ} → many ≤ length work → Holds (take many work) t → InFront t work many
in_front {work = work} {many = many} inside holds = record { inside = inside; long = sym (length-take-le many work inside); holds = holds }

module _ (lent : List ℕ) where
  pub refusal_keeps : {outcome : Outcome (List ℕ)} (e : Fault) {answer : Result ℕ Fault} → answer ≡ Err e → outcome ≡ refused e
      → Writes outcome lent (told answer) lent
  unfolding with_room written after
  refusal_keeps e told_is h = rw told_is (record { answers = rw h; buffer = rw h })

  pub shortage_keeps : {outcome : Outcome (List ℕ)} (file : List ℕ) → outcome ≡ accepted file → length lent < length file
      → Writes outcome lent (told (Err NoRoom)) lent
  unfolding with_room written after
  shortage_keeps file h short = record { answers = rw (h, lt-leb _ _ short); buffer = rw (h, lt-leb _ _ short) }

  pub file_keeps : {outcome : Outcome (List ℕ)} (file : List ℕ) → outcome ≡ accepted file → length file ≤ length lent
      → {n : ℕ} → n ≡ length file → {lent_after : List ℕ} → lent_after ≡ at_front file lent
      → Writes outcome lent (told (Ok n)) lent_after
  unfolding with_room written after
  file_keeps file h room n s = record { answers = rw (h, le-leb _ _ room, n); buffer = rw (h, le-leb _ _ room, s) }

  -- The file of the type that these bytes hold.
  pub type_keeps : {outcome : Outcome (List ℕ)} {t : Ty} {body : List ℕ} → Holds body t → outcome ≡ accepted (type_file_bytes t)
      → {answer : Result ℕ Fault} {lent_after : List ℕ} → PutsFile body lent answer lent_after → Writes outcome lent (told answer) lent_after
  unfolding type_file_bytes
  type_keeps {outcome} {t} {body} holds is {answer} {lent_after} puts = go (cases_lt (length lent) (2 + length body))
    where
      sized : 2 + length body ≡ length (type_file_bytes t)
      sized = omega (arith, section_length body [], ap (λ b. length (section_bytes b [])) holds.bytes)

      go : (length lent < 2 + length body) ⊎ (2 + length body ≤ length lent) → Writes outcome lent (told answer) lent_after
      go (inl short) =
          let kept = puts.no_room short in
          rw (kept.0, kept.1) (shortage_keeps (type_file_bytes t) is (omega (arith, sized)))
      go (inr fits) =
          let wrote = puts.written fits in
          let stands = wrote.1 ∙ ap (λ b. at_front (section_bytes b []) lent) holds.bytes in
          rw wrote.0 (file_keeps (type_file_bytes t) is (omega (arith, sized)) sized stands)

pub turned_down : {outcome : Outcome Prefix} (e : Fault) {answer : Result Taken Fault} → answer ≡ Err e → outcome ≡ refused e
    → Admits outcome (told_taken answer)
unfolding admitted
turned_down e told_is h = rw told_is (record { answers = rw h })

pub taken_in : {outcome : Outcome Prefix} (p : Prefix) → outcome ≡ accepted p → {b : Bool} {arrived : ℕ} → b ≡ complete p → arrived ≡ arrivals p
    → Admits outcome (told_taken (Ok (record { complete = b; arrived = arrived })))
unfolding admitted
taken_in p h e a = record { answers = rw (h, e, a) }
