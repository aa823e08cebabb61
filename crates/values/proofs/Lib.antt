pub mod Puts
pub mod Accs
pub mod Offers
pub mod Owns
pub mod Touching
pub mod Atoms
