-- Laws over plain lists that the proofs of this crate, and of crates above it, cite.
pub mod FirstLine
pub mod EndLaws
pub mod BytesLaws
