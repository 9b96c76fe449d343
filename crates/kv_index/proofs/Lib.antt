pub mod PlacesLemmas
pub mod EntriesLemmas
pub mod LookupLemmas
