-- What is there once both texts are read, and what a run of accepted texts begins with.
pub mod Given
pub mod Begun
