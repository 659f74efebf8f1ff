-- The laws of the set, a number entered by its place, and a set as the numbers that pass a test.
pub mod SetLaws
pub mod EnterLaws
pub mod KeptLaws
