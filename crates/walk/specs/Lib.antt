pub mod Counts
pub mod Walked
