pub mod Error
pub mod Text
pub mod Calls
pub mod Carry
