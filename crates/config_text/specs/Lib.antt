pub mod Bytes
pub mod Grammar
pub mod Items
pub mod Reading
