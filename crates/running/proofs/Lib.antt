-- The lowered words of a program do what the definition says of its statements.
pub mod Numbered
pub mod Scopes
pub mod Stores
pub mod Parted
pub mod Worked
pub mod Tested
pub mod Printed
pub mod Columns
pub mod Assigning
pub mod Programs
pub mod Runs
pub mod Counted
