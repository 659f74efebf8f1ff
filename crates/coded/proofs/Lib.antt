-- From the lowered words of a program to its code.
pub mod Bytes
pub mod Kept
pub mod Codes
pub mod Given
pub mod Halves
pub mod Agreeing
pub mod Scoping
pub mod OneCode
pub mod Quiet
pub mod Standing
pub mod Depth
pub mod Shapes
pub mod Moves
pub mod Programs
pub mod Steps
pub mod Whole
pub mod Coded
