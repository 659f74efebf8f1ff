-- Laws of the greatest common divisor.
pub mod Euclid
