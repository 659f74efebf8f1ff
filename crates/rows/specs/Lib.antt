-- Rows 13 and 12 of each statement.
pub mod Tests
pub mod Statements
