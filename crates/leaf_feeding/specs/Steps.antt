-- What a feed of a node answers and promises: contracts inside the library, which no demand rests on.
use Rattle.std.specs.Prelude.{None, Option, Some, ◌≡◌, List, [], ◌∷◌, ◌++◌, ℕ, suc, ◌+◌, ◌*◌, ◌≤◌, ◌<◌, length}
use Rattle.stream.specs.Types.{Ty, empty, size, type_limit}
use Rattle.stream.specs.Levels.{value_width}
use Rattle.stream.specs.Prefixes.{Prefix, empty_prefix}
use Rattle.stream.specs.TypeFiles.{type_bytes}
use Rattle.stream.specs.SliceFiles.{prefix_bytes}
use Rattle.reading.specs.SliceReads.{prefix_width}
use Rattle.node.specs.Nodes.{Node, silent, emit_cue, second}
use Rattle.node.specs.Checking.{WellTyped}
use Rattle.node.specs.Feeding.Functions.{sends, leaves}
use Rattle.node.specs.PatchFiles.{node_bytes}
use Rattle.patch_reading.specs.PatchReads.{node_width}
use Rattle.leaf_feeding.specs.declared.Step.{Step}
pub mod Laws

-- `bytes` stand in front of the work bytes that were lent; behind them may stand anything.
pub record Leads (bytes lent now : List ℕ) : Type 0 where
  pub rest : List ℕ
  pub begins : now ≡ bytes ++ rest
  pub long : length now ≡ length lent

-- What is sent, the node left and the type given lead the work bytes, and the answer has their lengths.
pub record Steps (end : ℕ) (o : Prefix) (n : Node) (t : Ty) (out remainder given out_after remainder_after given_after : List ℕ) (step : Step) : Type 0 where
  pub ends : step.end ≡ end
  pub sent : step.sent ≡ prefix_width o
  pub kept : step.kept ≡ node_width n
  pub sized : step.size ≡ size t
  pub output : Leads (prefix_bytes o []) out out_after
  pub node_left : Leads (node_bytes n []) remainder remainder_after
  pub type_given : Leads (type_bytes t []) given given_after

-- A feed is allowed to give the types of which `Gives` holds: it gives one of them, or fails, and then none has room. So it is fed exactly
-- if the rules and the limits allow it, where there is room for every type within the limit.
pub data Answers (Gives : Ty → Type 0) (end : ℕ) (o : Prefix) (n : Node) (out remainder given out_after remainder_after given_after : List ℕ) : Option Step → Type 0 where
  fed : {t : Ty} {step : Step} → Gives t → Steps end o n t out remainder given out_after remainder_after given_after step
      → Answers Gives end o n out remainder given out_after remainder_after given_after (Some step)
  failed : ((t : Ty) → Gives t → size t ≤ length given → ⊥)
      → Answers Gives end o n out remainder given out_after remainder_after given_after None

-- The answer of a node that ends at `end`, takes s and is fed p.
abbrev pub NodeAnswers : (end : ℕ) (s : Ty) (n : Node) (p : Prefix) (out remainder given out_after remainder_after given_after : List ℕ) → Option Step → Type 0
NodeAnswers end s n p = Answers (WellTyped s n) end (sends s n p) (leaves s n p)

-- Where there is room for a type there is room for every prefix of it, and behind both still so. No type has room that is too large.
pub record Rooms (out given : List ℕ) : Type 0 where
  pub for_type : length given ≤ type_limit
  pub for_output : 2 * length given < length out

-- No node without parts leaves more than silent with the largest type.
pub record LeafRooms (out remainder given : List ℕ) : Type 0 where
  pub rooms : Rooms out given
  pub left_room : suc type_limit ≤ length remainder

-- Silent asks neither the type nor the prefix.
abbrev pub SilentAnswers : (n : Node) (out remainder given out_after remainder_after given_after : List ℕ) → Option Step → Type 0
SilentAnswers n out remainder given out_after remainder_after given_after answer =
    (s : Ty) (p : Prefix) → NodeAnswers (node_width n) s n p out remainder given out_after remainder_after given_after answer

-- Cue and level do not ask the type, and of the prefix its bytes alone: the answer is that for every type, and for the prefix that the bytes
-- hold.

abbrev pub CueAnswers : (bytes out remainder given out_after remainder_after given_after : List ℕ) → Option Step → Type 0
CueAnswers bytes out remainder given out_after remainder_after given_after answer =
    (s : Ty) (p : Prefix) → prefix_bytes p [] ≡ bytes
    → NodeAnswers 1 s emit_cue p out remainder given out_after remainder_after given_after answer

abbrev pub LevelAnswers : (n : Node) (bytes out remainder given out_after remainder_after given_after : List ℕ) → Option Step → Type 0
LevelAnswers n bytes out remainder given out_after remainder_after given_after answer =
    (s : Ty) (p : Prefix) → prefix_bytes p [] ≡ bytes
    → NodeAnswers (1 + value_width) s n p out remainder given out_after remainder_after given_after answer

-- A node of one byte is left, of the kind k, once t and a prefix of it are handed on.
abbrev pub HandsOn : (k : ℕ) (t : Ty) (p : Prefix) (out remainder given out_after remainder_after given_after : List ℕ) → Option Step → Type 0
HandsOn k t p out remainder given out_after remainder_after given_after answer =
    (n : Node) → node_bytes n [] ≡ k ∷ [] → Answers (λ u. u ≡ t) 1 p n out remainder given out_after remainder_after given_after answer

-- Second waits: of the type of the second part it gives all and sends nothing, and stays.
abbrev pub Waits : (t : Ty) (out remainder given out_after remainder_after given_after : List ℕ) → Option Step → Type 0
Waits t out remainder given out_after remainder_after given_after answer =
    Answers (λ u. u ≡ t) 1 (empty_prefix t) second out remainder given out_after remainder_after given_after answer

-- Silent with the empty type is left, once `sent` bytes are sent and a type of one node is given.
pub record LeavesSilent (end sent : ℕ) (remainder remainder_after : List ℕ) (answer : Option Step) : Type 0 where
  pub answers : answer ≡ Some (record { end = end; sent = sent; kept = 2; size = 1 })
  pub left : Leads (node_bytes (silent empty) []) remainder remainder_after
