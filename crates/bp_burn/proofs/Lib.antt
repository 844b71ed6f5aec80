mod AsciiLemmas
pub mod BandLemmas
mod BoxPartLemmas
mod ChangeLemmas
mod CopyLemmas
mod CoverLemmas
mod Examples
mod FigureLemmas
pub mod InkLemmas
mod LetterLemmas
mod MakingLemmas
mod OutLemmas
mod RowLemmas
mod SheetLemmas
mod SlipLemmas
mod StripLemmas
mod TextLemmas
