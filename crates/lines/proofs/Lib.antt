-- Bytes put one after the other; a number's digits; the line of a tuple, part by part, and as the definition says it; how long it can be.
pub mod Puts
pub mod Digits
pub mod LineLaws
pub mod Lengths
