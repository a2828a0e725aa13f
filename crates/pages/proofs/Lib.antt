pub mod Agree
pub mod Between
pub mod Cuts
pub mod Keeps
pub mod Ends
