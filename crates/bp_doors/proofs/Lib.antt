mod Examples
pub mod CountLemmas
pub mod ExchangeLemmas
pub mod KnockLemmas
pub mod ServingLemmas
