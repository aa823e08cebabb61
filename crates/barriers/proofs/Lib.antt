pub mod Mapping
pub mod Nexts
pub mod Reholds
pub mod Clocking
