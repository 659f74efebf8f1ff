-- Lists of up to four different digits, and the same as numbers.
pub mod Lists
pub mod Packed
