pub mod Changes
pub mod Installs
pub mod Index
pub mod Pushing
pub mod Neighbours
pub mod HeadLemmas
pub mod NameLemmas
