-- The walk over the words of a program by the numbers of names, and what its answer means.
pub mod Walk
pub mod Resolved
