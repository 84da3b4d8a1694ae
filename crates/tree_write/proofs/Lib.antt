pub mod Lists
pub mod Joining
pub mod OneBlock
pub mod LeafKeys
mod Deciding
mod Tops
pub mod Still
pub mod Trees
pub mod LeafSteps
pub mod PageSteps
mod Going
mod Rising
pub mod Aligning
mod Assembling
pub mod Keeping
pub mod Drafting
pub mod Parts
