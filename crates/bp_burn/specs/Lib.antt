pub mod Band
pub mod Covered
pub mod Drawn
pub mod Figures
pub mod Ink
pub mod RowsOut
pub mod Strips
