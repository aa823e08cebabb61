pub mod Searches
pub mod Places
pub mod Stacks
pub mod Roots
pub mod Chains
pub mod Starts
