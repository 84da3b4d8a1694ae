pub mod Known
pub mod Order
pub mod Creates
pub mod Opens
pub mod Push
pub mod Laws
