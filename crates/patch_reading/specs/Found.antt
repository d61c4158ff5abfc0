-- What some bytes hold: the node that they begin with, and totals.
use Rattle.std.specs.Prelude.{◌≡◌, true, List, [], ℕ, length, drop}
use Rattle.std.specs.Coded.{×_prop, Unit-prop, le_prop}
use Rattle.std.proofs.Props.{props}
use Rattle.stream.specs.declared.Fault.TheVariants.{TooManyNodes}
use Rattle.stream.specs.Reading.{found, tree}
use Rattle.node.specs.Totals.{Totals, held, totals_bytes, read_totals}
use Rattle.node.specs.Nodes.{Node, pass, silent, emit_cue, emit_level, both, left_side, right_side, first, second, then, chain, regroup_right, regroup_left, spread, front, choose, mark_first, mark_second, Few}
use Rattle.node.specs.Nodes.Functions.{Carries}
use Rattle.node.specs.PatchFiles.{node_bytes, node_root}
use Rattle.patch_reading.specs.PatchReads.{node_width}

-- What a reading of one node finds that allows as many nodes as there are bytes, and so any number; where it finds none, pass, which no
-- rule uses.
unfoldable pub node_of : List ℕ → Node
node_of s = found pass (tree TooManyNodes node_root (length s) tt s)

-- These bytes begin with a node, and what it carries is within the limits.
pub record IsFront (s : List ℕ) : Type 0 where
  pub begins : node_bytes (node_of s) (drop (node_width (node_of s)) s) ≡ s
  pub carries : Carries (node_of s)

-- This holds in one way at most, as a ghost field has to.

carries-prop : (n : Node) → IsProp (Carries n)
carries-prop pass = Unit-prop
carries-prop (silent n) = le_prop
carries-prop emit_cue = Unit-prop
carries-prop (emit_level v) = le_prop
carries-prop (both n m) = ×_prop (carries-prop n) (carries-prop m)
carries-prop left_side = Unit-prop
carries-prop right_side = Unit-prop
carries-prop first = Unit-prop
carries-prop second = Unit-prop
carries-prop (then n m) = ×_prop (carries-prop n) (carries-prop m)
carries-prop (chain n m) = ×_prop (carries-prop n) (carries-prop m)
carries-prop regroup_right = Unit-prop
carries-prop regroup_left = Unit-prop
carries-prop spread = Unit-prop
carries-prop front = Unit-prop
carries-prop (choose n m) = ×_prop (carries-prop n) (carries-prop m)
carries-prop (mark_first t) = le_prop
carries-prop (mark_second t) = le_prop

pub is_front-prop : (s : List ℕ) → IsProp (IsFront s)
is_front-prop s x y =
    let begins_prop : IsProp (node_bytes (node_of s) (drop (node_width (node_of s)) s) ≡ s) = hlevel props in
    λ i. record {
      begins = begins_prop x.begins y.begins i;
      carries = carries-prop (node_of s) x.carries y.carries i;
    }

-- These bytes are one node and no more, of no more nodes than a patch may have.
abbrev pub OneNode : List ℕ → Type 0
OneNode s = (node_bytes (node_of s) [] ≡ s) × Few (node_of s)

-- The totals that eight bytes are; where they are none, those of a show that has not begun.
unfoldable pub totals_of : List ℕ → Totals
totals_of s = found (record { arrived = 0; sent = 0 }) (read_totals s)

abbrev pub AreTotals : List ℕ → Type 0
AreTotals s = (totals_bytes (totals_of s) [] ≡ s) × (held (totals_of s) ≡ true)
