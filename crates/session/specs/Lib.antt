pub mod Layer
pub mod Promise
pub mod Refusal
