pub mod Left
pub mod Printed
