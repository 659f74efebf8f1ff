-- Laws of assignments, items and PRINT.
pub mod LeftLaws
pub mod AssignLaws
pub mod ItemLaws
pub mod AmountLaws
