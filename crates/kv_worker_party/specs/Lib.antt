pub mod Serving
pub mod Turns
pub mod Laws
pub mod Party
pub mod Due
pub mod Threads
