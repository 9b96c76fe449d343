pub mod CopiesLemmas
pub mod KeptLemmas
