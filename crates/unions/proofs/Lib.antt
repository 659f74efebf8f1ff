-- How long a line is; bytes laid one after the other; the lines of numbers and of relations; names in order; the answer.
pub mod Sizes
pub mod Laying
pub mod LineLists
pub mod Sorting
pub mod Answering
