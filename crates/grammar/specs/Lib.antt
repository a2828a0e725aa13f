pub mod Reader
pub mod Readings
