-- Laws of the rows of statements.
pub mod Loops
pub mod Fitting
pub mod Coding
pub mod OneStatement
pub mod AllStatements
