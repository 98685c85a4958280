pub mod Copying
pub mod Going
pub mod Counting
pub mod Complete
pub mod Moving
mod NextPackets
pub mod Breaking
