-- Laws over plain lists that the proofs of this crate, and of crates above it, cite.
pub mod WordLaws
pub mod ElementLaws
pub mod LineLaws
pub mod RelationLaws
pub mod UseLaws
pub mod FactLaws
pub mod TakeLaws
pub mod ReadingLaws
pub mod AgainLaws
