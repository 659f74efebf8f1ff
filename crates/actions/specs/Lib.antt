-- What a statement's action does, by the words and the store.
pub mod Parts
pub mod Doing
