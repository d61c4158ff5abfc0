-- Patches fed one prefix after the other: the rules, the patch left, and the limits.
use Rattle.std.specs.Prelude.{List, [], ◌∷◌, ◌+◌}
use Rattle.stream.specs.Prefixes.{Prefix}
use Rattle.node.specs.Nodes.{Patch}
use Rattle.node.specs.Feeding.{FeedsPatch, Within}
use Rattle.node.specs.Feeding.Functions.{patch_left}
use Rattle.node.specs.Feeding.Lists.{derivative_all, sends_all, leaves_all, arrivals_all}

-- FeedsAll a ps os b: fed the prefixes ps one after the other, the patch a sends os and leaves b.
pub data FeedsAll : Patch → List Prefix → List Prefix → Patch → Type 0 where
  none_fed : {a : Patch} → FeedsAll a [] [] a
  feed_next : {a b c : Patch} {p o : Prefix} {ps os : List Prefix} → FeedsPatch a p o b → FeedsAll b ps os c → FeedsAll a (p ∷ ps) (o ∷ os) c

-- The patch left: its totals are those at the start and the arrivals of all that was fed and sent.
abbrev pub patch_left_all : Patch → List Prefix → Patch
patch_left_all a ps =
    record {
      input = derivative_all a.input ps;
      node = leaves_all a.input a.node ps;
      totals = record { arrived = a.totals.arrived + arrivals_all ps; sent = a.totals.sent + arrivals_all (sends_all a.input a.node ps) };
    }

-- Each is within the limits of Feed, of the patch that the earlier ones leave.
pub data EachWithin : Patch → List Prefix → Type 0 where
  none_within : {a : Patch} → EachWithin a []
  within_next : {a : Patch} {p : Prefix} {ps : List Prefix} → Within a p → EachWithin (patch_left a p) ps → EachWithin a (p ∷ ps)
