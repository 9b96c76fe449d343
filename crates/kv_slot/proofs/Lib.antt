pub mod OverwriteLemmas
pub mod SlotLemmas
pub mod HeadLemmas
pub mod AgainLemmas
pub mod LargeLemmas
pub mod LargeAgainLemmas
pub mod PlaceLemmas
