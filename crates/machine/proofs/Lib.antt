-- Laws of the step loop: what is left of a set, the open FORs, one step of each kind, and the machine in the definition's run.
pub mod Members
pub mod Frames
pub mod Steps
pub mod Runs
pub mod Decoding
pub mod Stops
pub mod Quiets
pub mod Acting
pub mod Goings
pub mod Recounting
pub mod Placing
