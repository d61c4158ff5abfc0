-- Feeding choose: on either, by what is chosen. While nothing is, its own type is found, of which it sends the empty prefix, and its bytes
-- are copied as they are.
use Rattle.std.specs.Prelude.{None, Ok, Option, Result, Some, ◌≡◌, refl, Bool, true, false, List, [], ◌++◌, ℕ, ◌-◌, ◌≤◌, ◌<◌, length, take, drop}
use Rattle.std.specs.Result.{result_ok}
use Rattle.std.specs.Cmp.Lexicographic.{pointwise}
use Rattle.std.proofs.Common.{nat_eq, sym, ap, ◌∙◌, arith, append_assoc, take_at, drop_at, length-take-le}
use Rattle.std.proofs.Math.Bool.{not, not-not}
use Rattle.stream.specs.declared.Fault.{Fault}
use Rattle.stream.specs.Types.{Ty, either, size, kind, same_type, Small}
use Rattle.stream.proofs.Types.Laws.{same_type_sound, same_type-complete}
use Rattle.stream.specs.Buffers.{at_front}
use Rattle.stream.specs.Prefixes.{Prefix, none_chosen, empty_prefix, IsPrefix, of_none_chosen, of_first_chosen, of_second_chosen}
use Rattle.stream.proofs.Prefixes.Laws.{empty_prefix_is_prefix}
use Rattle.stream.specs.Prefixes.Kinds.{prefix_kind}
use Rattle.stream.specs.TypeFiles.{type_bytes}
use Rattle.stream.specs.SliceFiles.{prefix_bytes}
use Rattle.stream.specs.TypeFiles.{type_of}
use Rattle.stream.proofs.TypeFiles.Held as types
use Rattle.stream.proofs.TypeFiles.Held.{type_width}
use Rattle.reading.specs.SliceReads.{prefix_width}
use Rattle.reading.specs.declared.types.TypeView.{TypeView}
use Rattle.reading.specs.declared.inputs.Input.{Input}
use Rattle.reading.specs.declared.inputs.Parts.{Parts}
use Rattle.reading.specs.declared.inputs.Parts.TheVariants.{Leaf, Coming, Crossed, Beside, NoneChosen, FirstChosen, SecondChosen}
use Rattle.reading.specs.InputViews.{MakeUp}
use Rattle.writing.specs.Comparing.{compared}
use Rattle.writing.specs.Writing.Laws.{part, back}
use Rattle.node.specs.Nodes.{Node, choose, Takes, takes_choose}
use Rattle.node.specs.Nodes.Kinds.{node_kind}
use Rattle.node.proofs.Nodes.Laws.{output_type_is, output_small}
use Rattle.node.specs.Checking.{typing, WellTyped}
use Rattle.node.proofs.Checking.Laws.{typing_sound}
use Rattle.node.specs.Feeding.Functions.{sends, leaves}
use Rattle.node.specs.PatchFiles.{node_bytes}
use Rattle.node.proofs.PatchFiles.Laws.{node_length}
use Rattle.patch_reading.specs.declared.fronts.NodeFront.{NodeFront}
use Rattle.patch_reading.specs.Fronts.{node, first_node, second_node}
use Rattle.patch_reading.specs.PatchReads.{node_width}
use Rattle.patch_reading.proofs.NodeParts.{made_of}
use Rattle.patch_reading.proofs.NodeFronts.{inside, bytes_are}
use Rattle.typing.specs.declared.Typed.{Typed}
use Rattle.typing.specs.Typing.{NodeTyped}
use Rattle.typing.specs.Typing.Laws.{IsGiven, is_given}
use Rattle.leaf_feeding.specs.declared.Step.{Step}
use Rattle.leaf_feeding.specs.Steps.{Leads, Steps, NodeAnswers, fed, failed}
use Rattle.leaf_feeding.specs.Steps.Laws.{front_leads, leads_taken, prefix_room}
use Rattle.feeding.specs.Feeds.{NodeRooms}
use Rattle.feeding.proofs.Typings.{one_size, no_type, ChooseTyped, choose_parts, choose_whole}
use Rattle.feeding.proofs.FeedingParts.{width_is}

module _ (n : Node) (fifteen : node_kind n ≡ 15) where
  abbrev pub made : n ≡ choose (first_node n) (second_node n)
  made = made_of n fifteen

  -- What the rules say of choose, by its parts, both ways.

  pub in_choose : {s r t : Ty} → WellTyped (either s r) n t → ChooseTyped s r (first_node n) (second_node n) t
  in_choose typed = choose_parts (rw made at typed)

  pub of_choose : {s r t : Ty} → ChooseTyped s r (first_node n) (second_node n) t → WellTyped (either s r) n t
  of_choose typed = rw made (choose_whole typed)

-- On another type it fails: an input of either is of one of these.

no_choice : {parts : Parts} {s r : Ty} {p : Prefix} → MakeUp parts (either s r) p → IsPrefix (either s r) p → (prefix_kind p ≡ 8 → ⊥)
    → ((a : Input) (b : TypeView) → parts ≡ FirstChosen a b → ⊥) → ((a : Input) (b : TypeView) → parts ≡ SecondChosen a b → ⊥) → ⊥
no_choice {parts = Leaf} cut of_none_chosen some first second = omega arith
no_choice {parts = Leaf} cut (of_first_chosen h) some first second = omega arith
no_choice {parts = Leaf} cut (of_second_chosen h) some first second = omega arith
no_choice {parts = Coming a b} cut h some first second = omega (arith, ap kind cut.0)
no_choice {parts = Crossed a b} cut h some first second = omega (arith, ap kind cut.0)
no_choice {parts = Beside a b} cut h some first second = omega (arith, ap kind cut.0)
no_choice {parts = NoneChosen a b} cut h some first second = some (ap prefix_kind cut.1)
no_choice {parts = FirstChosen a b} cut h some first second = first a b refl
no_choice {parts = SecondChosen a b} cut h some first second = second a b refl

no_shape : {parts : Parts} {s t : Ty} {p : Prefix} {l m : Node} → MakeUp parts s p → IsPrefix s p → (prefix_kind p ≡ 8 → ⊥)
    → ((a : Input) (b : TypeView) → parts ≡ FirstChosen a b → ⊥) → ((a : Input) (b : TypeView) → parts ≡ SecondChosen a b → ⊥)
    → Takes s (choose l m) t → ⊥
no_shape cut h some first second (takes_choose d e) = no_choice cut h some first second

pub no_either : (n : Node) → node_kind n ≡ 15 → {parts : Parts} {s : Ty} {p : Prefix} → MakeUp parts s p → IsPrefix s p → (prefix_kind p ≡ 8 → ⊥)
    → ((a : Input) (b : TypeView) → parts ≡ FirstChosen a b → ⊥) → ((a : Input) (b : TypeView) → parts ≡ SecondChosen a b → ⊥)
    → {out remainder given out_after remainder_after given_after : List ℕ}
    → NodeAnswers (node_width n) s n p out remainder given out_after remainder_after given_after None
no_either n fifteen cut h some first second =
    failed (λ t typed room. no_shape cut h some first second (rw (made n fifteen) at typed.types))

-- Two types that are held and told apart by their bytes.
module _ {first second : List ℕ} (t r : Ty) (small : Small t) (other : Small r) (is_first : first ≡ type_bytes t []) (is_second : second ≡ type_bytes r [])
    {unlike : Bool} (told : unlike ≡ not (pointwise nat_eq first second)) where
  same_is : same_type t r ≡ not unlike
  same_is = sym ((compared (not unlike) (ap not told ∙ not-not _)).each t r small other is_first is_second)

  pub types_agree : unlike ≡ false → t ≡ r
  types_agree agree = same_type_sound t r (same_is ∙ ap not agree)

  pub types_differ : {whole : Ty} → unlike ≡ true → t ≡ whole → r ≡ whole → ⊥
  types_differ {whole} differ one two =
      let same : same_type t r ≡ true = rw (one, two) (same_type-complete whole) in
      let apart : same_type t r ≡ false = same_is ∙ ap not differ in
      cc

-- What leads a part that was lent on stands there when the part has come back.
pub behind_taken : (a : ℕ) (x : List ℕ) {e y : List ℕ} {n : ℕ} → a ≤ length x → Leads e (part a x) y → n ≡ length e
    → take n (drop a (back a x y)) ≡ e
behind_taken a x {e} {y} {n} inside leads long =
    let behind : List ℕ = drop (length x - a) (drop a x) in
    ap (take n)
    (drop_at (take a x) (y ++ behind) a (length-take-le a x inside)
    ∙ ap (λ l. l ++ behind) leads.begins
    ∙ append_assoc e leads.rest behind)
    ∙ take_at e (leads.rest ++ behind) n (sym long)

-- What it sends and leaves while nothing is chosen.

sends_nothing : {s t : Ty} {l m : Node} → Takes s (choose l m) t → empty_prefix t ≡ sends s (choose l m) none_chosen
unfolding sends
sends_nothing (takes_choose d e) = ap empty_prefix (sym (output_type_is d))

unchosen_sends : {s t : Ty} {n l m : Node} → n ≡ choose l m → Takes s n t → empty_prefix t ≡ sends s n none_chosen
unchosen_sends is takes = rw is (sends_nothing (rw is at takes))

unchosen_leaves : (s : Ty) {n l m : Node} → n ≡ choose l m → n ≡ leaves s n none_chosen
unfolding leaves
unchosen_leaves s is = rw is refl

-- No part is chosen.
module _ (front : NodeFront) (fifteen : node_kind (node front) ≡ 15) (s : Ty) {out remainder given : List ℕ} (rooms : NodeRooms (node front) out remainder given) where
  abbrev n : Node
  n = node front

  abbrev Answer : (out_end remainder_end given_end : List ℕ) → Option Step → Type 0
  Answer = NodeAnswers (node_width n) s n none_chosen out remainder given

  -- If it has no type, it fails.
  pub whole_untyped : {given_after : List ℕ} {answer : Result Typed Fault} → NodeTyped s n given given_after answer → None ≡ result_ok answer
      → {out_end remainder_end given_end : List ℕ} → Answer out_end remainder_end given_end None
  whole_untyped answered none = failed (λ t typed room. no_type answered none typed)

  module _ {given_after : List ℕ} {told : Typed} (answered : NodeTyped s n given given_after (Ok told)) where
    pub found : IsGiven (node_width n) told.end told.size (typing s n)
    found = is_given _ _ answered.answers

    well_typed : WellTyped s n found.type
    well_typed = typing_sound _ _ _ front.front.carries found.given

    -- If there is no room for it, it fails.
    pub no_room : length given_after < told.size → {out_end remainder_end given_end : List ℕ} → Answer out_end remainder_end given_end None
    no_room short = failed (λ t typed room. omega (arith, short, room, answered.long, found.sized, one_size typed well_typed))

    pub node_inside : told.end ≤ length front.bytes.now
    node_inside = omega (arith, found.ends, inside front)

    taken : take told.end front.bytes.now ≡ node_bytes n []
    taken = rw found.ends (bytes_are front)

    pub copy_room : length (take told.end front.bytes.now) ≤ length remainder
    copy_room = omega (arith, ap length taken, rooms.left_room, node_length n [] front.front.carries)

    -- There is room.
    module _ (fits : told.size ≤ length given_after) where
      roomy : size found.type ≤ length given
      roomy = omega (arith, fits, found.sized, answered.long)

      type_leads : Leads (type_bytes found.type []) given given_after
      type_leads =
          let wide : length (type_bytes found.type []) ≤ length given = omega (arith, roomy, type_width found.type) in
          front_leads _ _ ((answered.writes _ found.given).in_front wide) wide

      -- What was given is the type whose empty prefix is written.
      type_held : types.Holds (take told.size given_after) found.type
      type_held =
          record {
            bytes = leads_taken type_leads (found.sized ∙ sym (type_width found.type));
            small = output_small well_typed.types well_typed.fits;
          }

      pub type_whole : type_bytes (type_of (take told.size given_after)) [] ≡ take told.size given_after
      type_whole = types.is_whole type_held

      pub type_small : Small (type_of (take told.size given_after))
      type_small = types.is_small type_held

      room : prefix_width (empty_prefix found.type) ≤ length out
      room = prefix_room rooms.rooms (empty_prefix_is_prefix found.type) roomy

      pub nothing_room : prefix_width (empty_prefix (type_of (take told.size given_after))) ≤ length out
      nothing_room = rw (types.has_tree type_held) room

      pub waited : {sent : ℕ} {out_after remainder_after : List ℕ} → sent ≡ prefix_width (empty_prefix (type_of (take told.size given_after)))
          → out_after ≡ at_front (prefix_bytes (empty_prefix (type_of (take told.size given_after))) []) out
          → remainder_after ≡ at_front (take told.end front.bytes.now) remainder
          → Answer out_after remainder_after given_after (Some (record { end = told.end; sent = sent; kept = told.end; size = told.size }))
      waited {sent} {out_after} {remainder_after} wide written copied =
          let empty_room : length (prefix_bytes (empty_prefix found.type) []) ≤ length out
          = omega (arith, room, width_is (empty_prefix found.type)) in
          let steps : Steps (node_width n) (empty_prefix found.type) n found.type
          out remainder given out_after remainder_after given_after (record { end = told.end; sent = sent; kept = told.end; size = told.size })
          = record {
            ends = found.ends;
            sent = rw (types.has_tree type_held) at wide;
            kept = found.ends;
            sized = found.sized;
            output = front_leads _ out (rw (types.has_tree type_held) at written) empty_room;
            node_left = rw (← taken) (front_leads _ remainder copied copy_room);
            type_given = type_leads;
          } in
          let sends_is : empty_prefix found.type ≡ sends s n none_chosen = unchosen_sends (made n fifteen) well_typed.types in
          let leaves_is : n ≡ leaves s n none_chosen = unchosen_leaves s (made n fifteen) in
          rw (← sends_is, ← leaves_is) (fed well_typed steps)
