pub mod Within
pub mod Stands
pub mod Own
pub mod Head
pub mod Start
