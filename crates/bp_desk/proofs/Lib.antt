pub mod CloseLemmas
pub mod DealLemmas
mod Examples
mod ExchangeExamples
pub mod ExchangeLemmas
pub mod FrontLemmas
pub mod LawLemmas
pub mod MoveLemmas
pub mod PostLemmas
pub mod RunLemmas
pub mod SeatLemmas
pub mod ServedLemmas
pub mod ServingLemmas
pub mod StartLemmas
pub mod StayLemmas
pub mod ThreadLemmas
pub mod TotalLemmas
pub mod TurnLemmas
