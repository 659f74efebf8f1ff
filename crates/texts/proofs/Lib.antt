-- Laws over plain lists that the proofs of this crate, and of crates above it, cite.
pub mod OrderLaws
pub mod RunLaws
pub mod WordTable
pub mod NameLaws
pub mod QuoteLaws
pub mod ValueLaws
