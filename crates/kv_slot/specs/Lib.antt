pub mod Overwrite
pub mod Views
pub mod Heads
pub mod Laws
