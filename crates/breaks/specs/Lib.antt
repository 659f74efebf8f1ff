-- What the contracts of this crate say, in the words of `definition`.
pub mod Bytes
