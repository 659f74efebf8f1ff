-- What the test programs print of lists.
pub mod Listed
