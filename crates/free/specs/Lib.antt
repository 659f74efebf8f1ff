-- The free attributes of the words of a statement.
pub mod Words
