pub mod Leaves
pub mod Reports
