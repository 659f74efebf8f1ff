-- What closes the page that `relcalc` prints.
pub mod Closing
