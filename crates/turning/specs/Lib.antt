-- Parts of two texts as parts of them in the other order.
pub mod Turned
