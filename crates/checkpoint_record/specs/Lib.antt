pub mod Parts
pub mod Rules
