pub mod Places
pub mod Adding
pub mod Halving
pub mod Weights
pub mod Making
pub mod Picking
