-- The words of a parsed program: fields and kinds, the words of each tree and where they stand, the tokens of a program, the uses of names, the patterns and the statements
-- as its words show them.
pub mod Fields
pub mod Raw
pub mod Standing
pub mod Tokens
pub mod Shown
pub mod ShownPatterns
pub mod Parts
