pub mod SentLemmas
pub mod DisksLemmas
pub mod CheckedLemmas
pub mod MergedLemmas
pub mod ListedLemmas
pub mod DumpedLemmas
pub mod FaultLemmas
pub mod UntilLemmas
