pub mod NodeRoots
pub mod NodeParts
pub mod NodeFronts
pub mod PatchParts
pub mod PatchFacts
