pub mod Lists
mod Histories
mod Owned
mod Agreeing
mod Rings
mod Parts
mod Coming
mod Joining
mod Beginning
mod Recovering
mod Meeting
pub mod Causing
mod Standing
pub mod Spending
mod Starting
mod Propositions
