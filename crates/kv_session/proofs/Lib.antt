pub mod ReaderLemmas
pub mod GroupLemmas
pub mod OutgoingLemmas
pub mod OutboxLemmas
pub mod PassageLemmas
pub mod DeliveryLemmas
