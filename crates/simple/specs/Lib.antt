-- What the functions that read statements answer.
pub mod Statements
