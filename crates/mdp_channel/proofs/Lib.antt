pub mod Parting
pub mod Numerals
pub mod Addresses
pub mod Listings
pub mod Counting
pub mod Stripping
pub mod Fronts
pub mod Answering
