-- Laws of the numbers of names, and of the lexer's words.
pub mod Numbering
pub mod Lexed
