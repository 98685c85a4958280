pub mod CommandLine
pub mod Faults
pub mod Printed
pub mod Live
pub mod Recording
pub mod Outcome
