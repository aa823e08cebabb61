-- What the functions of this crate promise each other on the way to a table, its places and its commands. No function that the crates above call cites it: a reader
-- need not believe it.
pub mod Coding
pub mod Scanned
pub mod Counting
