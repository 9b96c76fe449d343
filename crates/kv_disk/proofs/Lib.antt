mod MemoryLemmas
mod PlainLemmas
mod SettledLemmas
mod SpotLemmas
pub mod StepsLemmas
mod RecordedDiskLemmas
