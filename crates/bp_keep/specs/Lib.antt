pub mod Keeper
pub mod Memory
pub mod Puts
pub mod Slots
