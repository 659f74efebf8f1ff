-- Where a part of one of two texts begins.
pub mod Addresses
