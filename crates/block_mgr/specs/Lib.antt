pub mod Blocks
pub mod Cells
pub mod Found
pub mod Marks
pub mod Open
pub mod Places
pub mod Reads
pub mod Writes
