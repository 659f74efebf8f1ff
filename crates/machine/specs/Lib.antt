-- The step loop: what a word tells it, what the actions of statements have to do, how words stand for a program, one turn of the loop, and
-- where the machine stands in the definition's run.
pub mod Instructions
pub mod Actions
pub mod Placed
pub mod Turns
pub mod Standing
pub mod Recounts
pub mod Bound
