pub mod ApartLemmas
mod Examples
pub mod FieldLemmas
pub mod HeadLemmas
pub mod MemberLemmas
pub mod PlacedLemmas
pub mod ReplyExamples
pub mod ReplyLemmas
pub mod RequestLemmas
pub mod RouteLemmas
pub mod RouterLemmas
pub mod SearchLemmas
pub mod TableLemmas
pub mod TakenTargets
