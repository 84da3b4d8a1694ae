pub mod Capture
pub mod Laws
pub mod CutLaws
