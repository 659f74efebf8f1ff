-- Sets of numbers as ascending lists.
pub mod Sets
