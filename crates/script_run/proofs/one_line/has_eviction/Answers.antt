use Rattle.std.proofs.Common.{◌∙◌, ap, sym}
use Rattle.engine.specs.declared.step.Actor.{Actor}
use Rattle.engine.specs.Turning.{evicting_by}
use Rattle.script_run.specs.Scripts.{eviction_of, system_in}
use Rattle.script_run.proofs.EvictingLines.{not_there}
use Rattle.script_run.proofs.one_line.has_eviction.Goals as goal

pub returns-in-Session-clause-none : goal.returns-in-Session-clause-none
returns-in-Session-clause-none c = λ is. ap (λ (who : Actor). eviction_of who c.args.evicting.now) (sym c.actor_of.ensures ∙ c.in-Session.is)

pub returns-then-is_evicting-clause-some : goal.returns-then-is_evicting-clause-some
returns-then-is_evicting-clause-some c = (ap system_in (sym c.actor_of.ensures ∙ c.in-System.is), sym c.is_evicting.ensures ∙ c.if-is_evicting.true)

pub returns-else-is_evicting-clause-none : goal.returns-else-is_evicting-clause-none
returns-else-is_evicting-clause-none c = λ is.
    ap (λ (who : Actor). eviction_of who c.args.evicting.now) (sym c.actor_of.ensures ∙ c.in-System.is) ∙ not_there (evicting_by c.args.evicting.now c.in-System.number) (sym c.is_evicting.ensures ∙ c.if-is_evicting.false)
