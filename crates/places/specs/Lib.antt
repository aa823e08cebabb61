pub mod Known
pub mod Stack
pub mod Rooted
