pub mod Batched
pub mod Taking
pub mod Traffic
pub mod Gathering
pub mod Delivering
