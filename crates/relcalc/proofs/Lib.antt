-- What is printed of a run's answer.
pub mod Printing
