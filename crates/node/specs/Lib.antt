pub mod Totals
pub mod Nodes
pub mod Feeding
pub mod Checking
pub mod PatchFiles
pub mod Computing
