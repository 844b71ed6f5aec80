pub mod AheadLemmas
pub mod BitListLemmas
mod Examples
pub mod FrontLemmas
mod GlyphExamples
pub mod KeptLemmas
pub mod PrefixFreeLemmas
pub mod PrintLemmas
pub mod ReadingLemmas
pub mod RowLemmas
pub mod TrieLemmas
