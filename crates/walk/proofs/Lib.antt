mod Enough
mod Example
pub mod Parts
pub mod Printed
pub mod Written
