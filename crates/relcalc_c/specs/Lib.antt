-- What the five calls answer to hosts, in document 01's numbers.
pub mod Answers
