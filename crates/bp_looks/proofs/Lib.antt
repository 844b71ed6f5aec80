pub mod CountLemmas
pub mod CoveredLemmas
mod FoundExamples
pub mod LawLemmas
mod LookExamples
mod MatchExamples
pub mod NextLemmas
pub mod NumberLemmas
pub mod PartLemmas
pub mod PieceLemmas
pub mod StepLemmas
pub mod TextLemmas
pub mod WalkLemmas
