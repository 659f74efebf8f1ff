-- Laws of the free attributes of words.
pub mod Frame
pub mod Slotted
pub mod Trees
