-- Windows to Kept: every call keeps a memory good. View says how tables show a state of the protocol; Rows, OwnRow, Blocks and
-- Objects carry it over a step; the next show each placing and step as a block of events. Acts says which blocks a step may be, by
-- its request and its reply; Made, Stepping and Calls show that each step is one of them.
pub mod Windows
pub mod Sets
pub mod Own
pub mod Frames
pub mod Changes
pub mod Phases
pub mod Kept
pub mod Rows
pub mod View
pub mod OwnRow
pub mod Blocks
pub mod Objects
pub mod Placing
pub mod Reading
pub mod Extending
pub mod Passing
pub mod Deciding
pub mod Writing
pub mod Releasing
pub mod Acts
pub mod Made
pub mod Stepping
pub mod Counts
pub mod Calls
