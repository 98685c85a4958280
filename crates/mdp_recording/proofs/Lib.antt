pub mod Framing
pub mod Recording
