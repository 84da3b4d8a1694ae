mod Lists
pub mod Adding
mod OneLeaf
mod Going
