pub mod Bytes
pub mod Encode
pub mod Decode
