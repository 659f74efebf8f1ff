-- A lowered node means what its expression means.
pub mod Numbers
pub mod Slots
pub mod Folds
pub mod Fit
pub mod Assignments
pub mod Terms
pub mod Decoded
pub mod Halves
pub mod Means
pub mod Distinct
pub mod Filled
pub mod Stored
pub mod Statements
