pub mod Behinds
pub mod Insides
pub mod Waitings
