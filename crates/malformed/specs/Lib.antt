-- The walk over a program's words for its patterns.
pub mod Walk
