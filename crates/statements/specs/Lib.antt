-- What the functions that read blocks, compound statements and programs answer.
pub mod Blocks
