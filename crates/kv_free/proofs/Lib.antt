pub mod FreeListLemmas
