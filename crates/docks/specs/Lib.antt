pub mod Fare
