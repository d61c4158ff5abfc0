-- What a view of a patch says of the patch, and of the file that it was read from.
use Rattle.std.specs.Prelude.{Ok, ◌≡◌, refl, List, [], ℕ, length}
use Rattle.std.proofs.Common.{sym, ap, arith}
use Rattle.stream.specs.Reading.{Bytes, accepted}
use Rattle.node.specs.Totals.{Held, totals_bytes}
use Rattle.node.proofs.Totals.Laws.{held_test, totals_length}
use Rattle.node.specs.Nodes.{Few}
use Rattle.node.specs.PatchFiles.{node_bytes, first_pass}
use Rattle.patch_reading.specs.declared.patches.PatchView.{PatchView}
use Rattle.patch_reading.specs.PatchReads.{in_patch_file, node_width, AcceptedPatch}
use Rattle.patch_reading.specs.PatchReads.Standing.{view_accepted}
use Rattle.patch_reading.specs.PatchViews.{patch}

module _ (v : PatchView) where
  pub node_whole : v.node.bytes.now ≡ node_bytes (patch v).node []
  node_whole = sym v.one_node.0

  pub node_wide : length v.node.bytes.now ≡ node_width (patch v).node
  node_wide = ap length node_whole

  pub few : Few (patch v).node
  few = v.one_node.1

  pub totals_whole : v.totals.now ≡ totals_bytes (patch v).totals []
  totals_whole = sym v.are_totals.0

  pub totals_wide : length v.totals.now ≡ 8
  totals_wide = omega (arith, ap length totals_whole, totals_length (patch v).totals [])

  pub held : Held (patch v).totals
  held = (held_test (patch v).totals).0 v.are_totals.1

  -- Where the parts stand in the file, and how long it is.
  pub in_file : {file : List ℕ} → Bytes file → accepted (patch v) ≡ first_pass file → AcceptedPatch file (in_patch_file (patch v))
  in_file bytes told = view_accepted _ {answer = Ok v} told bytes v refl
