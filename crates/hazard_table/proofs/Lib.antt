pub mod Turning
pub mod Staying
pub mod PinSteps
pub mod Beginning
