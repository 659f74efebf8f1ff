-- The lowered word of each raw word, field by field; what a part of the lowered words holds; and when the arrays that lowering reads agree
-- with the definition.
pub mod Lowering
pub mod Agreement
