use Rattle.std.proofs.Common.{◌≡◌, ◌≤◌, replicate, vec_capacity}
use Rattle.limits.specs.declared.TheConstants.{SESSIONS_MAX}
use Rattle.txn_table.specs.SessionData.{opened}
use Rattle.txn_table.proofs.txns.new_sessions.Given as goal

abbrev pub invariant-loop : goal.invariant-loop
invariant-loop l = (l.made.items ≡ replicate l.counter (opened l.run)) × (SESSIONS_MAX ≤ vec_capacity l.made)
