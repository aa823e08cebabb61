pub mod Pushing
pub mod Ends
pub mod Lending
pub mod Giving
pub mod Spawns
