pub mod Held
pub mod PageFile
pub mod FilePages
pub mod FileSite
pub mod Entries
pub mod MemorySite
pub mod MemoryFields
