pub mod Words
pub mod Filling
pub mod Slots
