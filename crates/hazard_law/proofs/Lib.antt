pub mod Lists
pub mod Safe
pub mod Steps
pub mod Beside
pub mod Permits
