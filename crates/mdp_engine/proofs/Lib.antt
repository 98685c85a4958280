pub mod Fronts
pub mod Agreeing
pub mod Honesty
pub mod HonestFeeds
pub mod GivingUp
pub mod Keeping
pub mod Moving
pub mod Breaking
pub mod Auditing
pub mod Marking
pub mod Noting
pub mod Owing
pub mod Holding
mod Repeating
