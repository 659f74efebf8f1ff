-- The strings that a program's words show, entered one by one; what a list of parts in byte order keeps of each element; and what that makes of the universe of
-- two accepted texts.
pub mod LeftStrings
pub mod StringWords
pub mod Entering
pub mod FirstParts
pub mod ElementParts
pub mod Filling
