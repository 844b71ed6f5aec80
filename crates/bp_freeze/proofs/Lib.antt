mod Examples
pub mod AlikeLemmas
pub mod CsvLemmas
pub mod FamilyLemmas
pub mod FreezeLemmas
mod FrozenExamples
pub mod FrozenFamilyLemmas
pub mod FrozenItemLemmas
pub mod FrozenLemmas
pub mod FrozenMarkLemmas
pub mod FrozenNumberLemmas
pub mod FrozenOnceLemmas
pub mod FrozenPrefixLemmas
pub mod FrozenRangeLemmas
pub mod FrozenRequestLemmas
pub mod FrozenWritingLemmas
pub mod KeptLemmas
pub mod LabelLemmas
pub mod LogLemmas
pub mod NumberLemmas
pub mod PigeonLemmas
pub mod PutRowLemmas
pub mod RangeLemmas
pub mod RuleLemmas
pub mod TogetherLemmas
