-- Where a patch stands in its file, and what the first pass comes to by that: words of the laws, while the code hands on views.
use Rattle.std.specs.Prelude.{Err, Ok, Result, ◌≡◌, List, [], ℕ, ◌+◌, ◌-◌, ◌≤◌, length, drop}
use Rattle.reading.specs.TypeReads.{in_file, TypeIn}
use Rattle.stream.specs.Types.{size}
use Rattle.stream.specs.Reading.{Result as Outcome, accepted, refused}
use Rattle.node.specs.Totals.{Held, totals_bytes}
use Rattle.node.specs.Nodes.{Node, Patch, count, node_limit, Few}
use Rattle.node.specs.Nodes.Functions.{Carries}
use Rattle.node.specs.PatchFiles.{node_bytes, first_pass}
use Rattle.reading.specs.Places.{TypePlace}
pub use Rattle.node.specs.Nodes.Kinds.{node_arity}
pub mod Laws
pub mod Standing
use Rattle.stream.specs.declared.Fault.{Fault}

-- The place of its input type, and where its nodes begin. The totals are the last bytes.
pub record PatchPlace : Type 0 where
  pub input : TypePlace
  pub nodes : ℕ

-- The input type of a patch file stands behind the two bytes of its section's count, and the nodes behind those of theirs.
abbrev pub in_patch_file : Patch → PatchPlace
in_patch_file p = record { input = in_file p.input; nodes = 2 + size p.input + 2 }

unfoldable pub patch_read : Outcome Patch → Result PatchPlace Fault
patch_read (accepted p) = Ok (in_patch_file p)
patch_read (refused e) = Err e

-- The number of a node's bytes.
abbrev pub node_width : Node → ℕ
node_width n = length (node_bytes n [])

-- A node stands at a place of some bytes, and what it carries is within the limits; what stands behind it is free.
pub record NodeAt (bytes : List ℕ) (at : ℕ) (n : Node) : Type 0 where
  pub rest : List ℕ
  pub here : drop at bytes ≡ node_bytes n rest
  pub carries : Carries n

-- A patch file that its reader accepts. Behind the nodes stand the two bytes of a count and the totals, eight bytes.
pub record AcceptedPatch (file : List ℕ) (place : PatchPlace) : Type 0 where
  pub patch : Patch
  pub is_accepted : first_pass file ≡ accepted patch
  pub type_in : TypeIn file place.input patch.input
  pub node_at : NodeAt file place.nodes patch.node
  pub few : Few patch.node
  pub long : length file ≡ place.nodes + node_width patch.node + 10
  pub totals_at : drop (length file - 8) file ≡ totals_bytes patch.totals []
  pub held : Held patch.totals
