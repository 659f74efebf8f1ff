-- Laws of the words of a program.
pub mod FieldLaws
pub mod Sizes
pub mod Places
pub mod NameOrder
pub mod PatternOrder
pub mod EachKind
pub mod StatementParts
pub mod Said
