mod Names
mod Numbers
mod Printing
mod Asking
pub mod Telling
pub mod GoingOut
pub mod Frames
