pub mod Example
pub mod Paging
pub mod Pages
pub mod Putting
