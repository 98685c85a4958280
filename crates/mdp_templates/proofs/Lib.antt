pub mod Layouts
pub mod Messages
pub mod Spanning
pub mod Sides
pub mod OneAnswer
pub mod Fits
pub mod Framed
mod Places
