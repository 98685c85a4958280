pub mod Numbers
pub mod Pieces
pub mod Framings
pub mod Chains
pub mod Groups
