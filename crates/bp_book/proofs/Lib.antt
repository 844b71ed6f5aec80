pub mod BookLemmas
mod Examples
pub mod HistoryLemmas
