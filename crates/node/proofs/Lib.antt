pub mod Totals
pub mod Nodes
pub mod Checking
pub mod Feeding
pub mod PatchFiles
