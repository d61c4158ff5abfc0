pub mod Delivering
pub mod PatchWriting
pub mod TotalsLeft
