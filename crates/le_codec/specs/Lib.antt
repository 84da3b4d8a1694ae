pub mod Fields
pub mod Combine
pub mod Images
pub mod Views
