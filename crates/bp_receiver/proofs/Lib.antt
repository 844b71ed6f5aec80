mod Examples
mod GrantExamples
mod RequestExamples
mod ServingExamples
pub mod AgreeLemmas
pub mod CallLemmas
pub mod DeliverLemmas
pub mod EventLemmas
pub mod EventServingLemmas
pub mod GrantLemmas
pub mod OutlineLemmas
pub mod ReadyFileLemmas
pub mod ReadyLemmas
pub mod ReplyLemmas
pub mod RequestLemmas
pub mod RouteLemmas
pub mod StayLemmas
pub mod WantLemmas
