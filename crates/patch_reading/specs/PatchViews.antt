-- What the readers of patch files answer, as the readings of the documents: a value and the bytes behind it, or the first fault.
use Rattle.std.specs.Prelude.{Result, Ok, Err, List, ℕ}
use Rattle.std.proofs.Common.{Bor}
use Rattle.stream.specs.declared.Fault.{Fault}
use Rattle.stream.specs.Reading.{Reading, read, fault, Result as Outcome, accepted, refused}
use Rattle.reading.specs.declared.types.TypeView.{TypeView}
use Rattle.reading.specs.Views.{tree}
use Rattle.node.specs.Totals.{Totals}
use Rattle.node.specs.Nodes.{Node, Patch}
use Rattle.patch_reading.specs.declared.fronts.NodeFront.{NodeFront}
use Rattle.patch_reading.specs.declared.patches.PatchView.{PatchView}
use Rattle.patch_reading.specs.Found.{totals_of}
use Rattle.patch_reading.specs.Fronts.{node}

abbrev pub patch_of : TypeView → NodeFront → List ℕ → Patch
patch_of t n totals = record { input = tree t; node = node n; totals = totals_of totals }

abbrev pub patch : PatchView → Patch
patch v = patch_of v.input v.node v.totals.now

abbrev pub node_seen : Result (NodeFront × Bor (List ℕ)) Fault → Reading Node
node_seen (Ok v) = read (node v.0) v.1.now
node_seen (Err e) = fault e

abbrev pub totals_seen : Result (Bor (List ℕ) × Bor (List ℕ)) Fault → Reading Totals
totals_seen (Ok v) = read (totals_of v.0.now) v.1.now
totals_seen (Err e) = fault e

abbrev pub patch_seen : Result PatchView Fault → Outcome Patch
patch_seen (Ok v) = accepted (patch v)
patch_seen (Err e) = refused e
