pub mod BodyLemmas
pub mod CheckLemmas
pub mod CodecLemmas
mod Examples
pub mod FieldLemmas
pub mod FormLemmas
pub mod ImageLemmas
pub mod KeepLemmas
mod KeptExamples
pub mod KeptLemmas
pub mod LeastBadLemmas
pub mod MarkLemmas
pub mod NumberedLemmas
pub mod OrderLemmas
pub mod ReachLemmas
pub mod RowLemmas
pub mod SegmentLemmas
mod ValidExamples
