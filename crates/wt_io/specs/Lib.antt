pub mod Memory
pub mod StreamLemmas
pub mod Streams
