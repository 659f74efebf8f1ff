-- The line of a tuple, and bytes put to a buffer.
pub mod Lines
pub mod Put
