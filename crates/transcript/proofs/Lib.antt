mod Answered
mod TakingPatch
mod TakingSlice
pub mod Transcripts
pub mod Playing
