pub mod RangeLemmas
pub mod RuleLemmas
pub mod SeatLemmas
pub mod StepLemmas
pub mod Sums
