pub mod Pages
pub mod Shadow
pub mod Count
