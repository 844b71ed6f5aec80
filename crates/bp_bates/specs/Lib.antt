pub mod Labels
pub mod Prefixes
pub mod Spans
