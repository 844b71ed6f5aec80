pub mod Books
pub mod Calls
pub mod History
pub mod Shown
