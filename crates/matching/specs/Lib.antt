-- What the contracts of this crate say, in the words of `definition`.
pub mod Images
pub mod Bytes
pub mod Halves
pub mod Rows
