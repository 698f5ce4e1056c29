pub mod Lookup
pub mod Numbers
pub mod Tables
pub mod Fresh
pub mod Text
