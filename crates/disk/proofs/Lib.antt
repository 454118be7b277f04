pub mod Accesses
pub mod ImageBlocks
pub mod TiredBlocks
pub mod Spans
pub mod Retries
pub mod Histories
pub mod Disks
