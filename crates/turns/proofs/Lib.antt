pub mod Filled
pub mod Runs
pub mod Carrying
pub mod Looking
pub mod Readying
pub mod Sheets
pub mod Turning
pub mod Following
