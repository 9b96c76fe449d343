pub mod Session
pub mod Tasks
pub mod Passage
pub mod Reading
pub mod Group
pub mod Outgoing
