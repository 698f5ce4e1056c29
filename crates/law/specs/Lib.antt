-- Trace is what is on record of a run, Ledger what it tells of each transaction and object, Law the law.
pub mod Trace
pub mod Ledger
pub mod Law
