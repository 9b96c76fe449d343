pub mod Bags
pub mod States
pub mod Prefixes
pub mod Places
pub mod Firsts
pub mod Any
pub mod Laws
