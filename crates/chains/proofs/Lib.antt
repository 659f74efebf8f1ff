pub mod First
pub mod Least
pub mod Loops
pub mod Search
pub mod Ways
