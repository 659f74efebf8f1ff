-- The pass that lowers the words of a program, statement by statement.
pub mod Pass
pub mod Turns
