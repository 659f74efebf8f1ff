-- The facts' tuples by number, relation by relation.
pub mod Tallies
pub mod FactNumbers
