mod Examples
pub mod DoorLemmas
pub mod FileMapLemmas
pub mod FolderLemmas
pub mod InputLemmas
pub mod MemoryDoorLemmas
pub mod MemoryLemmas
pub mod OutLemmas
pub mod ReadingLemmas
