use Rattle.std.proofs.Common.{sym, ◌∙◌}
use Rattle.engine_store.proofs.EvictTurns.{some_more}
use Rattle.script_run.proofs.CheckpointLines.{free_now, not_free}
use Rattle.script_run.proofs.control.busy_evicting.Goals as goal

pub returns-then-is_barred-clause-none : goal.returns-then-is_barred-clause-none
returns-then-is_barred-clause-none c = λ is up free. absurd (not_free _ _ (sym c.is_barred.ensures ∙ c.if-is_barred.true) up free)

pub returns-clause-some : goal.returns-clause-some
returns-clause-some c = let free = free_now _ _ (sym c.is_barred.ensures ∙ c.if-is_barred.false) in some_more c.first_found.result (λ frame known. (free.0, free.1, known)) c.first_found.ensures.some

pub returns-clause-none : goal.returns-clause-none
returns-clause-none c = λ is up free number. c.first_found.ensures.none is number
