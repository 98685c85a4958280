pub mod Numbers
pub mod Needs
pub mod Fronts
pub mod Blocks
pub mod Files
pub mod Feeds
pub mod Readers
