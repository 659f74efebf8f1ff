-- Passes over numbers; the slots of one column; what each word of a PRINT prints, a quantity's item too, and how many bytes at most; a tuple's elements in slots; lowered words print what the
-- definition says; their closures stand in their tables once they are worked out.
pub mod Passes
pub mod Leading
pub mod Words
pub mod Figures
pub mod Bounds
pub mod InSlots
pub mod Texts
pub mod Held
