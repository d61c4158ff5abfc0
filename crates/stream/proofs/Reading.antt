pub mod Laws
pub mod Numbers
pub mod Parts
pub mod Budgets
pub mod Refusals
pub mod Walking
