-- The numbers of tuples of tables, as the code counts them.
pub mod Counting
