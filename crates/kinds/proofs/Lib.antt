-- Laws of the walk over names.
pub mod Steps
pub mod Meaning
pub mod Whole
