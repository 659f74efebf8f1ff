-- Laws of lowering.
pub mod Filling
pub mod Words
pub mod Terms
pub mod Masks
pub mod Places
pub mod Expressions
pub mod Items
pub mod Printing
pub mod LeftSides
pub mod FreeWords
