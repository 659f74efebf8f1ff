-- What the functions around the cycle of expressions do.
pub mod Operators
