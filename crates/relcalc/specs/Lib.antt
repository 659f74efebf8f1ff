-- What `relcalc` prints.
pub mod Prints
