-- Laws of the pass that lowers the words of a program.
pub mod Codes
pub mod Passing
