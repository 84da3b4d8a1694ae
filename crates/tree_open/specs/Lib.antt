pub mod Pages
pub mod Trees
pub mod Damage
