-- The attribute names of a statement and their slots.
pub mod Slots
