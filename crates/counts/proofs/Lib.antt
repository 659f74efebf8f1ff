-- The loops over words and relations, and that the counts are the numbers of tuples of the definition's tables.
pub mod Ones
pub mod Relations
pub mod All
