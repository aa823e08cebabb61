pub mod Touched
pub mod Owned
