pub mod Mapped
pub mod Reheld
