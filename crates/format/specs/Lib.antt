pub mod Bytes
pub mod Blocks
pub mod Examples
pub mod Stores
pub mod Times
pub mod Texts
pub mod Offsets
pub mod Logs
