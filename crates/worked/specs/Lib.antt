pub mod Worked
pub mod Example
