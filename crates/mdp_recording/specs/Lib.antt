pub mod Frames
pub mod Recorded
