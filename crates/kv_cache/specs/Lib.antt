pub mod Cache
pub mod Copies
pub mod Kept
