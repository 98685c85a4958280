pub mod Address
pub mod ChannelLine
pub mod Channel
pub mod ChannelFile
pub mod Fault
