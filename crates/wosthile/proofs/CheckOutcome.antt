-- What Check comes to, by its two passes, and what it has to write.
use mathlib.Core.Path.{◌≡◌, refl, sym}
use mathlib.Core.List.{List}
use Prim.Native.Nat.{ℕ}
use lib.ListN.{length}
use Rattle.std.specs.Prelude.{Err, Ok}
use Rattle.stream.specs.declared.Fault.{Fault}
use Rattle.stream.specs.Types.{Ty}
use Rattle.stream.specs.Reading.{accepted, refused}
use Rattle.stream.specs.TypeFiles.{type_file_bytes}
use Rattle.reading.specs.Views.{tree}
use Rattle.node.specs.PatchFiles.{first_pass, second_pass, patch_file}
use Rattle.patch_reading.specs.declared.patches.PatchView.{PatchView}
use Rattle.patch_reading.specs.Fronts.{node}
use Rattle.patch_reading.specs.PatchViews.{patch}
use Rattle.typing.specs.Typing.{NodeTyped}
use Rattle.typing.proofs.Given.{gave, was_refused, size_inside, given_held}
use Rattle.typing.specs.declared.Typed.{Typed}
use Rattle.meaning.specs.Answers.{check}
use Rattle.wosthile.proofs.Keeping.{InFront, in_front}

pub not_read : (file : List ℕ) {e : Fault} → refused e ≡ first_pass file → check file ≡ refused e
unfolding check patch_file
not_read file h = rw (← h)

-- A type is given, and stands at the front of the work array `given`.
pub record TypeGiven (file given : List ℕ) (many : ℕ) : Type 0 where
  pub output : Ty
  pub is_typed : check file ≡ accepted (type_file_bytes output)
  pub here : InFront output given many

module _ (file : List ℕ) (v : PatchView) (read : accepted (patch v) ≡ first_pass file) {lent given : List ℕ} where
  pub not_typed : {e : Fault} → NodeTyped (tree v.input) (node v.node) lent given (Err e) → check file ≡ refused e
  unfolding check patch_file second_pass
  not_typed told = rw (← read, (was_refused v.node refl told).outcome)

  -- The work array has room for every type within the limit.
  pub type_given : {typed : Typed} → NodeTyped (tree v.input) (node v.node) lent given (Ok typed) → 255 ≡ length lent
      → TypeGiven file given typed.size
  unfolding check patch_file second_pass
  type_given told long =
      let g = gave v.node refl told in
      record {
        output = g.type;
        is_typed = rw (← read, g.outcome);
        here = in_front (size_inside g (sym long)) (given_held g (sym long));
      }
