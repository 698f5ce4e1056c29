-- Protocol has the events; History and Commits are what is on record of a run; the rest are the laws over it.
pub mod Table
pub mod Protocol
pub mod Alone
pub mod History
pub mod Commits
pub mod Serial
pub mod Consistent
pub mod Contention
