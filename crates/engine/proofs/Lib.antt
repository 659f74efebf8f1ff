-- What the check answers, and what the step loop begins with.
pub mod Checks
pub mod Begins
