-- Laws over plain lists that the proofs of this crate cite.
pub mod ImageLaws
pub mod ByteLaws
pub mod MoveLaws
pub mod TurnLaws
pub mod SetLaws
pub mod RowLaws
pub mod LedLaws
pub mod MatchLaws
pub mod HalfLaws
