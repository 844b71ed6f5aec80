pub mod Examples
pub mod FileLemmas
pub mod FindingLemmas
pub mod InTurnLemmas
pub mod JoinedLemmas
pub mod JudgeLemmas
pub mod OneAnswerLemmas
pub mod PageRuleLemmas
pub mod ReadBackLemmas
pub mod ReadExamples
pub mod SomeAnswerLemmas
pub mod StandingLemmas
mod StripExamples
pub mod TurnedLemmas
pub mod WrittenLayoutLemmas
