pub mod Tokens
pub mod Segments
pub mod Scans
pub mod Answers
