pub mod Continuing
pub mod JoinedSeats
pub mod Listed
