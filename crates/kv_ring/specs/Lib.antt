pub mod Tasks
pub mod Lines
pub mod Ends
pub mod Matrix
pub mod Comparing
pub mod Turn
