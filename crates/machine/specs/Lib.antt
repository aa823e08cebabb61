pub mod Ran
pub mod Numbers
