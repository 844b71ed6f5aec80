mod BoxLemmas
pub mod BurnedLemmas
pub mod ClearingLemmas
pub mod EdgeLemmas
mod Examples
mod FindLemmas
pub mod GridLemmas
pub mod PackedLemmas
pub mod PageLemmas
pub mod PaintLemmas
pub mod PixelLemmas
pub mod ByteLemmas
pub mod RowSetLemmas
pub mod RunLemmas
pub mod ShownLemmas
pub mod WordLemmas
