use Rattle.std.specs.Prelude.{None, slice_index_or}
use Rattle.engine_store.proofs.EvictTurns.{once_looked, some_more}
use Rattle.engine_store.proofs.store.Store.locked_by_other.Goals as goal

pub returns-in-Err-clause-none : goal.returns-in-Err-clause-none
returns-in-Err-clause-none c = λ is w stands look. absurd (once_looked (slice_index_or w.systems c.args.number None) w.machine c.args.table.now c.args.key.now _ (c.in-Err.ensures.refused w stands) look)

pub returns-in-Ok-clause-some : goal.returns-in-Ok-clause-some
returns-in-Ok-clause-some c = some_more c.lock_on_key.result (λ frame known. λ w stands. (c.in-Ok.ensures.goes w stands, known w stands)) c.lock_on_key.ensures.some

pub returns-in-Ok-clause-none : goal.returns-in-Ok-clause-none
returns-in-Ok-clause-none c = λ is w stands look frame locked. c.lock_on_key.ensures.none is w stands frame locked
