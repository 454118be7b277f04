pub mod Judged
pub mod Formatting
pub mod Sound
pub mod Trying
