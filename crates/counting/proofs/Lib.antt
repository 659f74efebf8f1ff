-- The loop over the numbers, what it counts, that it is the number of tuples where the numbers are those of facts, and that they are; a relation's tuples by number.
pub mod TallyLaws
pub mod SetCounts
pub mod FactCounts
pub mod Entering
pub mod RelationNumbers
