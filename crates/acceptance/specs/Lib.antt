-- What is known of two texts, pass by pass, and once all passes are through.
pub mod Passes
pub mod Reading
