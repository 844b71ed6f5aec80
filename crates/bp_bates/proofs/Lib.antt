mod Examples
pub mod LabelLemmas
pub mod PrefixLemmas
