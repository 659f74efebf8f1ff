-- Tokens as words, and the numbers of names.
pub mod Entries
pub mod Numbers
