pub mod KeyLemmas
pub mod HeldLemmas
pub mod ChangeLemmas
pub mod WalkLemmas
pub mod DrainLemmas
pub mod EntryLemmas
pub mod SessionLemmas
pub mod LawLemmas
