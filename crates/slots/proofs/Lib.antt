-- Laws of names in an array, and of the names and closures of a statement.
pub mod Arrays
pub mod Texts
pub mod Attributes
pub mod ClosureCount
