mod CheckOutcome
mod FeedOutcome
mod FilesWritten
pub mod Keeping
pub mod Opening
mod PatchWritten
mod SliceRead
mod TotalsAdded
