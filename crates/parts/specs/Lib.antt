-- What the contracts of this crate say, in the words of `definition`.
pub mod Packed
pub mod Entries
pub mod Places
