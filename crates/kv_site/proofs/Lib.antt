mod EntryLemmas
mod FileLemmas
mod MemorySiteLemmas
