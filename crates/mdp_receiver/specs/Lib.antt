pub mod Said
pub mod Copies
pub mod Taken
pub mod Moved
pub mod Handling
