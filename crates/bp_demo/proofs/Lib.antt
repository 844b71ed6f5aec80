pub mod TextLemmas
pub mod WordLemmas
pub mod PageLemmas
pub mod LineLemmas
pub mod KeptLemmas
pub mod PileLemmas
pub mod BatchLemmas
pub mod CallLemmas
pub mod TableLemmas
pub mod SheetLemmas
pub mod ThereLemmas
pub mod DoneLemmas
pub mod AnswerLemmas
pub mod ResponsiveLemmas
mod Examples
