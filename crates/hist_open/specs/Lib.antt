pub mod Pages
pub mod Trees
pub mod Leaves
pub mod Damage
