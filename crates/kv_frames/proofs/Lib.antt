pub mod FramingLemmas
pub mod NumberLemmas
pub mod CodeLemmas
pub mod RequestLemmas
pub mod ReplyLemmas
pub mod StreamLemmas
pub mod TranscriptLemmas
