-- Laws of lists of digits and their numbers.
pub mod Listing
pub mod Packing
