pub mod Pages
pub mod Marks
pub mod Children
pub mod TableReading
pub mod HistoryReading
pub mod RecordReading
pub mod Names
