pub mod Transcripts
pub mod Playing
pub mod Sessions
