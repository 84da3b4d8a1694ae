pub mod ReadBack
pub mod WorkedRows
