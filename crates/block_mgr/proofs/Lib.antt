pub mod AdmitLemmas
pub mod HasLemmas
pub mod HolderLemmas
pub mod LiveLemmas
pub mod MarkLemmas
pub mod OpenLemmas
pub mod UnitLemmas
pub mod WriteLemmas
