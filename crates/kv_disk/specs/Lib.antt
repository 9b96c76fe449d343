pub mod Memory
pub mod MemoryFields
pub mod Order
pub mod Plain
pub mod PlainFields
pub mod Replay
pub mod Steps
pub mod Told
