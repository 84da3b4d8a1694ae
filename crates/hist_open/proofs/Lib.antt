pub mod Maxima
pub mod OnePage
pub mod OneLayer
pub mod Descent
pub mod OneLeaf
pub mod TreeLeaves
