pub mod Tops
pub mod PageSteps
pub mod Trees
pub mod Rising
pub mod LeafGoing
pub mod Wholes
pub mod Assembling
