-- What the rules and limits say of a node with two parts, by its parts, both ways.
use Rattle.std.specs.Prelude.{Err, None, Ok, Result, Some, ◌≡◌, refl, List, ℕ}
use Rattle.std.proofs.Common.{sym, ap, ◌∙◌}
use Rattle.std.specs.Result.{result_ok}
use Rattle.stream.specs.declared.Fault.{Fault}
use Rattle.stream.specs.Types.{Ty, seq, either, size, Small}
use Rattle.stream.specs.Reading.{refused}
use Rattle.node.specs.Nodes.{Node, both, then, chain, choose, Takes, takes_both, takes_then, takes_chain, takes_choose}
use Rattle.node.specs.Nodes.Functions.{Fits}
use Rattle.node.proofs.Nodes.Laws.{output_type_is, output_small}
use Rattle.node.specs.Checking.{typing, WellTyped}
use Rattle.node.proofs.Checking.Laws.{typing-complete}
use Rattle.typing.specs.declared.Typed.{Typed}
use Rattle.typing.specs.Typing.{Answers as TypingAnswers}
use Rattle.typing.specs.Typing.Laws.{is_refused}
use Rattle.feeding.specs.declared.Pair.TheVariants.{Beside, Crossed}
use Rattle.feeding.specs.Feeds.{PairTyped}

-- A node gives one type at most.
pub only_type : {s t u : Ty} {n : Node} → WellTyped s n t → WellTyped s n u → t ≡ u
only_type a b = sym (output_type_is a.types) ∙ output_type_is b.types

pub one_size : {s t u : Ty} {n : Node} → WellTyped s n t → WellTyped s n u → size t ≡ size u
one_size a b = ap size (only_type a b)

-- A node that the second pass refuses gives none.
pub untyped : {s t : Ty} {n : Node} {fault : Fault} → typing s n ≡ refused fault → WellTyped s n t → ⊥
untyped refuses well =
    let accepts = typing-complete well.types well.fits in
    cc

-- What is known of an answer of the second pass whose fault is dropped: it has told of a type, or there is none.

pub has_told : {answer : Result Typed Fault} {told : Typed} → Some told ≡ result_ok answer → answer ≡ Ok told
has_told {answer = Ok other} e = cc
has_told {answer = Err fault} e = cc

pub no_type : {end : ℕ} {s t : Ty} {n : Node} {lent now : List ℕ} {answer : Result Typed Fault}
    → TypingAnswers end (typing s n) lent now answer → None ≡ result_ok answer → WellTyped s n t → ⊥
no_type {answer = Ok told} answered e = cc
no_type {answer = Err fault} answered e = untyped (is_refused _ _ answered.answers)

-- Of both and then, the types that their nodes give.

pub both_parts : {s t : Ty} {n m : Node} → WellTyped s (both n m) t → PairTyped Beside s s n m t
both_parts typed = go typed.types typed.fits
  where
    go : {s u : Ty} {n m : Node} → Takes s (both n m) u → Fits s (both n m) → PairTyped Beside s s n m u
    go (takes_both d e) f =
        record {
          first = _;
          second = _;
          first_typed = record { types = d; fits = f.0 };
          second_typed = record { types = e; fits = f.1 };
          made = refl;
        }

pub both_whole : {s t : Ty} {n m : Node} → PairTyped Beside s s n m t → Small t → WellTyped s (both n m) t
both_whole typed small =
    let whole = takes_both typed.first_typed.types typed.second_typed.types in
    let small_whole = rw typed.made at small in
    rw typed.made
    (record { types = whole; fits = (typed.first_typed.fits, typed.second_typed.fits, rw (output_type_is whole) small_whole) })

pub then_parts : {s r t : Ty} {n m : Node} → WellTyped (seq s r) (then n m) t → PairTyped Crossed s r n m t
then_parts typed = go typed.types typed.fits
  where
    go : {s r u : Ty} {n m : Node} → Takes (seq s r) (then n m) u → Fits (seq s r) (then n m) → PairTyped Crossed s r n m u
    go (takes_then d e) f =
        record {
          first = _;
          second = _;
          first_typed = record { types = d; fits = f.0 };
          second_typed = record { types = e; fits = f.1 };
          made = refl;
        }

pub then_whole : {s r t : Ty} {n m : Node} → PairTyped Crossed s r n m t → Small t → WellTyped (seq s r) (then n m) t
then_whole typed small =
    let whole = takes_then typed.first_typed.types typed.second_typed.types in
    let small_whole = rw typed.made at small in
    rw typed.made
    (record { types = whole; fits = (typed.first_typed.fits, typed.second_typed.fits, rw (output_type_is whole) small_whole) })

-- Of a chain, the type between its nodes.

pub record ChainTyped (s : Ty) (n m : Node) (t : Ty) : Type 0 where
  pub middle : Ty
  pub first_typed : WellTyped s n middle
  pub second_typed : WellTyped middle m t

pub chain_parts : {s t : Ty} {n m : Node} → WellTyped s (chain n m) t → ChainTyped s n m t
chain_parts typed = go typed.types typed.fits
  where
    go : {s u : Ty} {n m : Node} → Takes s (chain n m) u → Fits s (chain n m) → ChainTyped s n m u
    go (takes_chain d e) f =
        record {
          middle = _;
          first_typed = record { types = d; fits = f.0 };
          second_typed = record { types = e; fits = rw (output_type_is d) at f.1 };
        }

pub chain_whole : {s t : Ty} {n m : Node} → ChainTyped s n m t → WellTyped s (chain n m) t
chain_whole {s} {t} {n} {m} typed =
    let one = typed.first_typed in
    let other = typed.second_typed in
    let whole = takes_chain one.types other.types in
    record {
      types = whole;
      fits = (one.fits, rw (output_type_is one.types) other.fits, rw (output_type_is whole) (output_small other.types other.fits));
    }

-- Of choose, the one type that both its nodes give.

pub record ChooseTyped (s r : Ty) (n m : Node) (t : Ty) : Type 0 where
  pub first_typed : WellTyped s n t
  pub second_typed : WellTyped r m t

pub choose_parts : {s r t : Ty} {n m : Node} → WellTyped (either s r) (choose n m) t → ChooseTyped s r n m t
choose_parts typed = go typed.types typed.fits
  where
    go : {s r u : Ty} {n m : Node} → Takes (either s r) (choose n m) u → Fits (either s r) (choose n m) → ChooseTyped s r n m u
    go (takes_choose d e) f =
        record { first_typed = record { types = d; fits = f.0 }; second_typed = record { types = e; fits = f.1 } }

pub choose_whole : {s r t : Ty} {n m : Node} → ChooseTyped s r n m t → WellTyped (either s r) (choose n m) t
choose_whole typed =
    let one = typed.first_typed in
    let other = typed.second_typed in
    let whole = takes_choose one.types other.types in
    record { types = whole; fits = (one.fits, other.fits, rw (output_type_is whole) (output_small one.types one.fits)) }
