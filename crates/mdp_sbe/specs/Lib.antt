pub mod Refusal
pub mod Number
pub mod Framing
pub mod Group
pub mod Answer
