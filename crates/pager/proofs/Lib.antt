pub mod Turns
pub mod Invariant
pub mod Works
pub mod Rises
pub mod Stands
