-- The lemmas of the law of the words, which stand in a lower crate.
pub use Rattle.hazard_law.proofs.Beside.{finds_beside, latches_beside, puts_beside, turns_beside}
pub use Rattle.hazard_law.proofs.Permits.{clearing_allowed, filling_allowed, freeing_allowed, locking_allowed, looking_allowed}
pub use Rattle.hazard_law.proofs.Permits.{publishing_allowed, scanning_allowed, unlocking_allowed, validating_allowed}
