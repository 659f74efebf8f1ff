-- The lowered words of a program, statement by statement, and where its tables stand.
pub mod Statements
pub mod Program
pub mod Layout
