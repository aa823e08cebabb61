pub mod Withs
pub mod Standings
pub mod Going
pub mod Failing
pub mod Reading
pub mod Ranges
pub mod Exceeding
pub mod Searching
