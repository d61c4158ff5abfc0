pub mod PlannedParts
pub mod LongestWalk
pub mod LongestFile
