pub mod Pushes
pub mod Pops
pub mod Lends
pub mod Gives
