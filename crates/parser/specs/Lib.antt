-- What reading a query answers.
pub mod Queries
