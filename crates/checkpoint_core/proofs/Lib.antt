pub mod Holding
pub mod Installing
pub mod Recording
pub mod Capturing
