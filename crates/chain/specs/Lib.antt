pub mod Fill
pub mod Asking
