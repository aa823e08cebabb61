pub mod Paged
pub mod Put
pub mod Text
pub mod Walk
