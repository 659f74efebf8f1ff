-- The closing line, part by part.
pub mod Closings
