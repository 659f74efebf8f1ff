-- The words of tables, by the words of their relations, and the relations' records.
pub mod Sizes
pub mod Records
