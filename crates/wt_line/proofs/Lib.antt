pub mod Matched
pub mod PlainWords
pub mod WalkedWords
