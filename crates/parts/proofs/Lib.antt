-- Laws over plain lists that the proofs of this crate, and of crates above it, cite.
pub mod EntryLaws
pub mod PackLaws
pub mod HeldLaws
pub mod PositionLaws
pub mod InsertLaws
