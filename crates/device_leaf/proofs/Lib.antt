pub mod Leaves
pub mod Shapes
pub mod Books
pub mod Opens
pub mod Writes
