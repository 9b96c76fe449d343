pub mod TakeLemmas
pub mod BatchLemmas
pub mod HandLemmas
pub mod ReceiveLemmas
pub mod GatherLemmas
pub mod AnsweringLemmas
pub mod DeliverLemmas
