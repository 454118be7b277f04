pub mod Bounds
pub mod Verdicts
pub mod Over
pub mod Judging
