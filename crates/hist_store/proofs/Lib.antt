pub mod Searching
pub mod NamesInOrder
pub mod Adding
pub mod Sweeping
pub mod ByKey
pub mod Index
pub mod Pushing
