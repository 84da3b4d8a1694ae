use Rattle.std.proofs.Common.{◌∙◌, ap, refl, sym}
use Rattle.std.specs.Prelude.{None, Option, Some, slice_index_or, slice_set}
use Rattle.engine.specs.declared.turning.Evicting.{Evicting}
use Rattle.std.proofs.Common.{List, ℕ}
use Rattle.engine.specs.declared.turning.EvictStage.TheVariants.{Find}
use Rattle.script_run.specs.declared.kept.Kept.{Kept}
use Rattle.script_run.specs.Scripts.{with_evicting}
use Rattle.script_run.proofs.EvictingLines.{start_busy, start_free}
use Rattle.script_run.proofs.evicting.begin_evicting.Goals as goal

abbrev one : List ℕ → List ℕ → Evicting
one table key = record { table = table; key = key; stage = Find }

pub returns-then-has_started-clause-starts : goal.returns-then-has_started-clause-starts
returns-then-has_started-clause-starts c = λ w stands s systems same.
    (s, start_busy (slice_index_or w.systems c.args.asked.number None) s c.args.asked.number c.args.asked.table c.args.asked.key _ (sym (c.has_started.ensures w stands) ∙ c.if-has_started.true) refl, refl, same)

pub returns-clause-starts : goal.returns-clause-starts
returns-clause-starts c = λ w stands s systems same.
    let later = with_evicting s (slice_set s.kept.evicting c.args.asked.number (Some (one c.args.asked.table c.args.asked.key))) in (
      later,
      start_free (slice_index_or w.systems c.args.asked.number None) s later c.args.asked.number c.args.asked.table c.args.asked.key _ (sym (c.has_started.ensures w stands) ∙ c.if-has_started.false) refl refl,
      refl,
      ap (λ (k : Kept). let moved : Kept = record k { evicting = slice_set k.evicting c.args.asked.number (Some (one c.args.asked.table c.args.asked.key)) } in moved) same ∙ ap (λ (l : List (Option Evicting)). let moved : Kept = record c.args.kept.now { evicting = l } in moved) (sym c.put_evicting.ensures),
    )
