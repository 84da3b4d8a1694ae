pub mod Sight
pub mod Matters
pub mod Past
pub mod SightLaws
