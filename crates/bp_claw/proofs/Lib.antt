pub mod AgreeLemmas
mod ClaimLemmas
mod Examples
mod NoticeLemmas
mod PutLemmas
mod ReplacedLemmas
mod StayLemmas
