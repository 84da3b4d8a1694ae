pub mod Laws
pub mod Sessions
pub mod Asks
pub mod Leaves
