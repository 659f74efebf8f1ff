-- The parts of elements begin in their texts.
pub mod Starts
pub mod Words
