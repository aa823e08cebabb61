pub mod Typed
pub mod Kept
pub mod Values
pub mod Runs
pub mod Sheets
pub mod Singly
