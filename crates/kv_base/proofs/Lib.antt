pub mod StreamLemmas
pub mod PieceLemmas
pub mod CrashLemmas
pub mod ImageLemmas
