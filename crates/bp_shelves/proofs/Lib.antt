pub mod ShelfLemmas
