pub mod CallsLemmas
pub mod CountsLemmas
pub mod DifferLemmas
mod DigitLemmas
pub mod InTurnLemmas
mod PathLemmas
pub mod RectangleLemmas
pub mod SortedLemmas
mod TextLemmas
mod Examples
mod StepExamples
