pub mod EmptyTrees
pub mod Fields
pub mod Frame
pub mod OneTree
pub mod Exact
pub mod Device
mod Regular
