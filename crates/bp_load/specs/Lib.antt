pub mod Dat
pub mod Documents
pub mod Fields
pub mod Lines
pub mod Opt
pub mod OptFields
pub mod Table
