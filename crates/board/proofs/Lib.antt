pub mod Kept
pub mod Times
pub mod Finding
pub mod Youth
pub mod Verdicts
pub mod Joined
