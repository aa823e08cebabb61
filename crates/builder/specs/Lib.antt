-- What a reader must believe
pub mod Build
pub mod Cases
-- What the code promises itself on the way
pub mod Filled
