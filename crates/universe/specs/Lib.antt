-- The strings on left-hand sides, and the universe with them.
pub mod Strings
