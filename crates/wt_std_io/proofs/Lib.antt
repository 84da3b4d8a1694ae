pub mod KnownBytesLemmas
