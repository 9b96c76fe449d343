pub mod ContinuingLemmas
pub mod RosterLemmas
pub mod SeatLemmas
pub mod ZipLemmas
