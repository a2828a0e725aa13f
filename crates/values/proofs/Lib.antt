pub mod Numbers
pub mod Ordered
pub mod Keys
pub mod Writing
pub mod Rows
pub mod Unescaping
