-- How the passes make up the answer, and what a caller has of it.
pub mod Accepting
pub mod Answers
