pub mod Writing
pub mod Appending
pub mod Reordering
pub mod Rearranging
pub mod Leaving
pub mod Comparing
pub mod Tasks
