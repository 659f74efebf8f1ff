-- What the lowered words of a PRINT print, and what they must satisfy to be those of the definition's items.
pub mod Items
pub mod Lowered
