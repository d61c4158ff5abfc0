-- A node that is typed first and then sends: where the type given has room, it is fed, and otherwise no type has room.
use Rattle.std.specs.Prelude.{◌≡◌, refl, List, [], ℕ, ◌≤◌, ◌<◌, length, None, Some, Ok, Result}
use Rattle.std.proofs.Common.{sym, ap, ◌∙◌, arith}
use Rattle.stream.specs.declared.Fault.{Fault}
use Rattle.stream.specs.Types.{Ty, size}
use Rattle.stream.specs.Reading.{Result as Outcome, accepted, refused}
use Rattle.stream.specs.TypeFiles.{type_bytes}
use Rattle.reading.specs.TypeReads.Laws.{type_width}
use Rattle.reading.specs.declared.inputs.Input.{Input}
use Rattle.reading.specs.InputViews.{type, prefix}
use Rattle.reading.proofs.InputViews.{is_prefix}
use Rattle.writing.specs.Appending.{Holds}
use Rattle.node.specs.Nodes.{Node}
use Rattle.node.specs.Nodes.Functions.{Carries}
use Rattle.node.specs.Checking.{typing, WellTyped}
use Rattle.node.proofs.Checking.Laws.{typing_sound, typing-complete}
use Rattle.node.proofs.Feeding.Laws.{preserved}
use Rattle.patch_reading.specs.PatchReads.{node_width}
use Rattle.typing.specs.declared.Typed.{Typed}
use Rattle.typing.specs.Typing.{typed_at, typed, sized, TypeGiven, NodeTyped}
use Rattle.std.specs.Result.{result_ok}
use Rattle.leaf_feeding.specs.Steps.{fed, failed, NodeAnswers, LeafRooms}
use Rattle.leaf_feeding.specs.Steps.Laws.{front_leads, prefix_room}
use Rattle.leaf_feeding.specs.Reordered.{FitsIn, SendDue, Sent}

-- The type given, and its size.
pub record Gave (outcome : Outcome Ty) (many : ℕ) : Type 0 where
  pub type : Ty
  pub given : outcome ≡ accepted type
  pub sized : many ≡ size type

has_size : {many : ℕ} (outcome : Outcome Ty) → Ok many ≡ sized outcome → Gave outcome many
unfolding sized
has_size (accepted t) e = record { type = t; given = refl; sized = cc }
has_size (refused f) e = absurd (cc)

-- The same of a node that is told with its end.
pub record IsTyped (end : ℕ) (found : Typed) (outcome : Outcome Ty) : Type 0 where
  pub ends : found.end ≡ end
  pub gave : Gave outcome found.size

has_typed : (end : ℕ) {found : Typed} (outcome : Outcome Ty) → Some found ≡ result_ok (typed end outcome) → IsTyped end found outcome
unfolding typed
has_typed end {found} (accepted t) e =
    let same : found ≡ typed_at end (size t) = cc in
    record { ends = ap (λ f. f.end) same; gave = record { type = t; given = refl; sized = ap (λ f. f.size) same } }
has_typed end (refused f) e = absurd (cc)

module _ (n : Node) (carries : Carries n) (i : Input) {out remainder given : List ℕ} (rooms : LeafRooms out remainder given) where
  -- Given or not, by the rules.

  pub none_fits : {end : ℕ} {out_after remainder_after given_after : List ℕ}
      → ((t : Ty) → typing (type i) n ≡ accepted t → size t ≤ length given → ⊥)
      → NodeAnswers end (type i) n (prefix i) out remainder given out_after remainder_after given_after None
  none_fits none = failed (λ t well room. none t (typing-complete well.types well.fits) room)

  module _ {many : ℕ} (gave : Gave (typing (type i) n) many) (fits : many ≤ length given) where
    well_typed : WellTyped (type i) n gave.type
    well_typed = typing_sound (type i) n gave.type carries gave.given

    type_room : size gave.type ≤ length given
    type_room = omega (arith, gave.sized)

    -- What it sends has room ..
    pub send_due : SendDue (type i) n (prefix i) out remainder
    send_due =
        record {
          output_type = gave.type;
          types = well_typed.types;
          output_room = prefix_room rooms.rooms (preserved well_typed.types (is_prefix i)).sent type_room;
          left_room = omega (arith, rooms.left_room);
        }

    -- .. and once it is sent, the node is fed.
    pub fed_so : {end sent : ℕ} {out_after remainder_after given_after : List ℕ} → Holds (type_bytes gave.type []) given given_after
        → Sent (type i) n (prefix i) out remainder out_after remainder_after sent
        → NodeAnswers end (type i) n (prefix i) out remainder given out_after remainder_after given_after
        (Some (record { end = end; sent = sent; kept = 1; size = many }))
    fed_so {end} {sent} holds delivers =
        let wide = type_width gave.type in
        fed {step = record { end = end; sent = sent; kept = 1; size = many }} well_typed
        (record {
          ends = refl;
          sent = delivers.wide;
          kept = sym delivers.one;
          sized = gave.sized;
          output = delivers.output;
          node_left = delivers.node_left;
          type_given =
              front_leads (type_bytes gave.type []) given (holds.in_front (omega (arith, wide, type_room))) (omega (arith, wide, type_room));
        })

  -- A node of one byte.
  module _ {given_after : List ℕ} {told : Result ℕ Fault} (given_as : TypeGiven (typing (type i) n) given given_after told) where
    pub given_failed : {out_after remainder_after given_now : List ℕ} → FitsIn told (length given_after) None
        → NodeAnswers 1 (type i) n (prefix i) out remainder given out_after remainder_after given_now None
    unfolding sized
    given_failed fits =
        none_fits
        (λ t is room. fits.fails refl (size t) (given_as.answers ∙ ap sized is) (omega (arith, given_as.long)))

    module _ {many : ℕ} (fits : FitsIn told (length given_after) (Some many)) where
      gave : Gave (typing (type i) n) many
      gave = has_size (typing (type i) n) (sym (fits.gives many refl).0 ∙ given_as.answers)

      room : many ≤ length given
      room = omega (arith, (fits.gives many refl).1, given_as.long)

      pub given_due : SendDue (type i) n (prefix i) out remainder
      given_due = send_due gave room

      pub given_fed : {sent : ℕ} {out_after remainder_after : List ℕ} → Sent (type i) n (prefix i) out remainder out_after remainder_after sent
          → NodeAnswers 1 (type i) n (prefix i) out remainder given out_after remainder_after given_after
          (Some (record { end = 1; sent = sent; kept = 1; size = many }))
      given_fed = fed_so gave room (given_as.writes gave.type gave.given)

  -- A node that is told with its end.
  module _ {given_after : List ℕ} {told : Result Typed Fault} (typed_as : NodeTyped (type i) n given given_after told) where
    pub typed_failed : {out_after remainder_after given_now : List ℕ} → None ≡ result_ok told
        → NodeAnswers (node_width n) (type i) n (prefix i) out remainder given out_after remainder_after given_now None
    unfolding typed
    typed_failed none =
        none_fits (λ t is room. let e = ap result_ok (typed_as.answers ∙ ap (typed (node_width n)) is) in absurd (cc (none, e)))

    module _ (found : Typed) (some : Some found ≡ result_ok told) where
      is_typed : IsTyped (node_width n) found (typing (type i) n)
      is_typed = has_typed (node_width n) (typing (type i) n) (some ∙ ap result_ok typed_as.answers)

      pub typed_large : {out_after remainder_after given_now : List ℕ} → length given_after < found.size
          → NodeAnswers (node_width n) (type i) n (prefix i) out remainder given out_after remainder_after given_now None
      typed_large large =
          none_fits
          (λ t is room.
          let same : accepted t ≡ accepted is_typed.gave.type = sym is ∙ is_typed.gave.given in
          let one : t ≡ is_typed.gave.type = cc in
          omega (arith, ap size one, is_typed.gave.sized, typed_as.long))

      module _ (fits : found.size ≤ length given_after) where
        inside : found.size ≤ length given
        inside = omega (arith, typed_as.long)

        pub typed_due : SendDue (type i) n (prefix i) out remainder
        typed_due = send_due is_typed.gave inside

        pub typed_fed : {sent : ℕ} {out_after remainder_after : List ℕ} → Sent (type i) n (prefix i) out remainder out_after remainder_after sent
            → NodeAnswers (node_width n) (type i) n (prefix i) out remainder given out_after remainder_after given_after
            (Some (record { end = found.end; sent = sent; kept = 1; size = found.size }))
        typed_fed sent = rw is_typed.ends (fed_so is_typed.gave inside (typed_as.writes is_typed.gave.type is_typed.gave.given) sent)
