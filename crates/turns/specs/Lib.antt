pub mod Turns
pub mod Sheet
