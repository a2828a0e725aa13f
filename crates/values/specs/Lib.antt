pub mod Meant
pub mod Kind
pub mod Key
pub mod Row
pub mod Back
