-- What the functions that read phrases answer.
pub mod Phrases
pub mod Terms
