-- Relations and facts by name; elements by number; one fact; the store fact by fact.
pub mod Named
pub mod Tuples
pub mod OneFact
pub mod Steps
