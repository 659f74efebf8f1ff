-- Laws of a statement's part of the words and of its closures' words.
pub mod Parts
pub mod Rooms
pub mod Doings
pub mod Restored
