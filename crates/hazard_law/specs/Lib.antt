pub mod Words
pub mod Safety
pub mod Kinds
pub mod Promises
