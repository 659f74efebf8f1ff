-- What the contracts of this crate say, in the words of `definition`.
pub mod Lines
pub mod Words
pub mod Pass
pub mod Reading
pub mod Again
