pub mod CalmLemmas
pub mod ColumnLemmas
pub mod CountLemmas
mod Examples
pub mod LabelLemmas
pub mod ListingLemmas
pub mod ManifestLemmas
pub mod RecordLemmas
pub mod ToldLemmas
