-- The lines of a union by the facts' numbers, and lines laid one after the other.
pub mod Union
