-- What a reader must believe
pub mod Command
pub mod Refusal
pub mod Reading
pub mod Bodies
pub mod Scan
pub mod Count
pub mod Table
pub mod Places
-- What cases are compared with
pub mod Same
-- Cases
pub mod Cases
-- What the code promises itself on the way
pub mod Inner
