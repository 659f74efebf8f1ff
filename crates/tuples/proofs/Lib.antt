-- Digits and a table's words; a tuple's place; all tuples; one turn of each loop; runs of stores.
pub mod Digits
pub mod Tables
pub mod Lists
pub mod Turns
pub mod Stores
pub mod Images
pub mod Loading
