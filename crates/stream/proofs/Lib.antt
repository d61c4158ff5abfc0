pub mod Types
pub mod Levels
pub mod Prefixes
pub mod Longest
pub mod TypeFiles
pub mod SliceFiles
pub mod Reading
