-- The lemmas of the laws, which stand in a lower crate.
pub use Rattle.pool_law.proofs.Growth.{grow_latches, grow_puts, grow_turns}
pub use Rattle.pool_law.proofs.Keepers.{keep_finds, keep_latches, keep_puts, keep_turns}
