pub mod TestTables
