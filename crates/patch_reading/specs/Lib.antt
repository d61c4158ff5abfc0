pub mod PatchReads
pub mod Found
pub mod Fronts
pub mod PatchViews
