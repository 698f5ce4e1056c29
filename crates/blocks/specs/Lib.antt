-- What the contracts of the crate speak of.
pub mod Refusals
pub mod Checks
pub mod Records
pub mod Letters
pub mod Reading
pub mod Opening
pub mod Writing
pub mod RoundTrip
