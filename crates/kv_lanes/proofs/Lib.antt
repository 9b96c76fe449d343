pub mod LaneLemmas
pub mod SumLemmas
