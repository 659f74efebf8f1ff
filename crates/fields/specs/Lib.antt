-- The answers of the calls in document 01's numbers.
pub mod Fields
