-- What lowering must give, for each expression the kind and the fields of its words; and what an evaluation must find in the store.
pub mod Lowered
pub mod Ready
