-- Laws over plain lists.
pub mod Turning
pub mod TurnedLaws
