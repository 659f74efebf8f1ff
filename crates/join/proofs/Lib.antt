-- Laws over plain lists that the proofs of this crate cite.
pub mod Names
pub mod Quotes
pub mod UnionLaws
pub mod UnionText
pub mod Stages
