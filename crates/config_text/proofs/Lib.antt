mod Choices
mod Fronts
mod ClosingBrackets
pub mod ReadItems
