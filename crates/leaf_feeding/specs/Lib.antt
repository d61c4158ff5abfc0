pub mod Steps
pub mod Reordered
