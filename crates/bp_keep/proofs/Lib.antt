mod Examples
pub mod PutLemmas
pub mod SlotLemmas
