pub mod Rule
pub mod Seats
pub mod Tables
pub mod Opening
pub mod Closing
pub mod Ends
pub mod Lending
