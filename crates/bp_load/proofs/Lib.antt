pub mod LineLemmas
pub mod OptLemmas
pub mod TextLemmas
pub mod OptWrittenLemmas
pub mod DatLemmas
pub mod DatTableLemmas
pub mod JoinLemmas
pub mod EndedLineLemmas
pub mod DatWrittenLemmas
pub mod CountLemmas
mod Examples
