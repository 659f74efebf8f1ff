-- What a proposal that has the text says.
pub mod Found
