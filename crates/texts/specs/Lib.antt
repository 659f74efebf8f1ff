-- What the contracts of this crate say, in the words of `definition`.
pub mod Orders
pub mod Classes
pub mod Words
