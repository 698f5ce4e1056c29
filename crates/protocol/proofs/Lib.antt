-- Updates, Blocks and Sequence are tools. Invariant says what every lawful run keeps, and Ends to Seal that each event keeps it.
-- Facts says what is kept of versions, and Current to Preserved that it is. Places, Linking and Laws prove serializability
-- and consistent reads, Freshness and Contention that an abort is justified.
pub mod Updates
pub mod Blocks
pub mod Sequence
pub mod Alone
pub mod Invariant
pub mod Ends
pub mod Accesses
pub mod Certify
pub mod Seal
pub mod Places
pub mod Facts
pub mod Chain
pub mod Current
pub mod Versions
pub mod Logs
pub mod Process
pub mod Times
pub mod Preserved
pub mod Linking
pub mod Laws
pub mod Freshness
pub mod Contention
