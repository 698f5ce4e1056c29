-- The lemmas that the proofs of several functions share.
pub mod Overwrites
pub mod Listed
pub mod Written
pub mod Restored
