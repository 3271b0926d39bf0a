pub mod Constants
pub mod Conditions
pub mod Words
pub mod Below
pub mod Refusals
