-- Left, right, first and second: an input that is cut otherwise than each of them asks is of a type that it does not take.
use Rattle.std.specs.Prelude.{◌≡◌, refl, List, ℕ, None}
use Rattle.std.proofs.Common.{ap, arith}
use Rattle.stream.specs.Types.{Ty, seq, par, kind}
use Rattle.stream.specs.Prefixes.{Prefix, IsPrefix, of_first, of_crossed, of_beside}
use Rattle.reading.specs.declared.inputs.Input.{Input}
use Rattle.reading.specs.declared.types.TypeView.{TypeView}
use Rattle.reading.specs.declared.inputs.Parts.{Parts}
use Rattle.reading.specs.declared.inputs.Parts.TheVariants.{Leaf, Coming, Crossed, Beside, NoneChosen, FirstChosen, SecondChosen}
use Rattle.reading.specs.InputViews.{MakeUp}
use Rattle.node.specs.Nodes.{left_side, right_side, first, second, Takes, takes_left, takes_right, takes_first, takes_second}
use Rattle.leaf_feeding.specs.Steps.{failed, NodeAnswers}

-- A type of the kind 4 has its two sides beside each other, and one of the kind 3 its first part coming or crossed.

no_sides : {parts : Parts} {s r : Ty} {p : Prefix} → MakeUp parts (par s r) p → IsPrefix (par s r) p
    → ((a b : Input) → parts ≡ Beside a b → ⊥) → ⊥
no_sides {parts = Leaf} made (of_beside h k) other = omega arith
no_sides {parts = Coming a b} made h other = omega (arith, ap kind made.0)
no_sides {parts = Crossed a b} made h other = omega (arith, ap kind made.0)
no_sides {parts = Beside a b} made h other = other a b refl
no_sides {parts = NoneChosen a b} made h other = omega (arith, ap kind made.0)
no_sides {parts = FirstChosen a b} made h other = omega (arith, ap kind made.0)
no_sides {parts = SecondChosen a b} made h other = omega (arith, ap kind made.0)

no_order : {parts : Parts} {s r : Ty} {p : Prefix} → MakeUp parts (seq s r) p → IsPrefix (seq s r) p
    → ((a : Input) (b : TypeView) → parts ≡ Coming a b → ⊥) → ((a b : Input) → parts ≡ Crossed a b → ⊥) → ⊥
no_order {parts = Leaf} made (of_first h) coming crossed = omega arith
no_order {parts = Leaf} made (of_crossed h c k) coming crossed = omega arith
no_order {parts = Coming a b} made h coming crossed = coming a b refl
no_order {parts = Crossed a b} made h coming crossed = crossed a b refl
no_order {parts = Beside a b} made h coming crossed = omega (arith, ap kind made.0)
no_order {parts = NoneChosen a b} made h coming crossed = omega (arith, ap kind made.0)
no_order {parts = FirstChosen a b} made h coming crossed = omega (arith, ap kind made.0)
no_order {parts = SecondChosen a b} made h coming crossed = omega (arith, ap kind made.0)

-- So it fails.

left_shape : {parts : Parts} {s t : Ty} {p : Prefix} → Takes s left_side t → MakeUp parts s p → IsPrefix s p
    → ((a b : Input) → parts ≡ Beside a b → ⊥) → ⊥
left_shape takes_left made h other = no_sides made h other

right_shape : {parts : Parts} {s t : Ty} {p : Prefix} → Takes s right_side t → MakeUp parts s p → IsPrefix s p
    → ((a b : Input) → parts ≡ Beside a b → ⊥) → ⊥
right_shape takes_right made h other = no_sides made h other

first_shape : {parts : Parts} {s t : Ty} {p : Prefix} → Takes s first t → MakeUp parts s p → IsPrefix s p
    → ((a : Input) (b : TypeView) → parts ≡ Coming a b → ⊥) → ((a b : Input) → parts ≡ Crossed a b → ⊥) → ⊥
first_shape takes_first made h coming crossed = no_order made h coming crossed

second_shape : {parts : Parts} {s t : Ty} {p : Prefix} → Takes s second t → MakeUp parts s p → IsPrefix s p
    → ((a : Input) (b : TypeView) → parts ≡ Coming a b → ⊥) → ((a b : Input) → parts ≡ Crossed a b → ⊥) → ⊥
second_shape takes_second made h coming crossed = no_order made h coming crossed

module _ {parts : Parts} {s : Ty} {p : Prefix} (made : MakeUp parts s p) (is_prefix : IsPrefix s p)
    {out remainder given out_after remainder_after given_after : List ℕ} where
  module _ (other : (a b : Input) → parts ≡ Beside a b → ⊥) where
    pub left_fails : NodeAnswers 1 s left_side p out remainder given out_after remainder_after given_after None
    left_fails = failed (λ t typed room. left_shape typed.types made is_prefix other)

    pub right_fails : NodeAnswers 1 s right_side p out remainder given out_after remainder_after given_after None
    right_fails = failed (λ t typed room. right_shape typed.types made is_prefix other)

  module _ (coming : (a : Input) (b : TypeView) → parts ≡ Coming a b → ⊥) (crossed : (a b : Input) → parts ≡ Crossed a b → ⊥) where
    pub first_fails : NodeAnswers 1 s first p out remainder given out_after remainder_after given_after None
    first_fails = failed (λ t typed room. first_shape typed.types made is_prefix coming crossed)

    pub second_fails : NodeAnswers 1 s second p out remainder given out_after remainder_after given_after None
    second_fails = failed (λ t typed room. second_shape typed.types made is_prefix coming crossed)
