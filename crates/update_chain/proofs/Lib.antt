pub mod ChainLemmas
pub mod Picking
pub mod Meeting
pub mod Below
pub mod Reading
mod Ended
mod Tops
mod Carrying
mod GoingOn
mod Writes
mod Releasing
mod Stamping
mod Installing
mod Ending
mod Trimming
mod Framing
mod LaterLooks
mod Silence
mod Pasts
pub mod Finding
pub mod RollingBack
pub mod Lying
