use Rattle.std.proofs.Common.{refl, subst, sym}
use Rattle.wt_calls.specs.declared.call.Call.{Call}
use Rattle.script_text.specs.declared.line.Line.TheVariants.{Whole}
use Rattle.script_run.specs.declared.kept.Kept.{Kept}
use Rattle.script_run.specs.Runs.{IsTold}
use Rattle.script_run.specs.Scripts.{IsFree, IsUnbuilt, caller}
use Rattle.script_run.proofs.Holding.{not_later}
use Rattle.script_run.proofs.one_line.reply_to_whole.Goals as goal

pub evict-requires-clause-other : goal.evict-requires-clause-other
evict-requires-clause-other g c = c.in_default.ensures.none refl

pub reply_to_actor-requires-clause-now : goal.reply_to_actor-requires-clause-now
reply_to_actor-requires-clause-now g c = not_later c.is_unbuilt.result (IsUnbuilt c.args.call) c.if-is_unbuilt.false c.is_unbuilt.ensures.1

pub returns-in-Some-clause-replies : goal.returns-in-Some-clause-replies
returns-in-Some-clause-replies g c = λ honest first s at same none.
    let is = c.in-Some.ensures.some in
    subst (λ (l : Kept). IsTold g.D.Disk first (Whole c.args.call) s c.run_checkpoint.new.store c.run_checkpoint.new.disk l c.run_checkpoint.result) same
    (subst (λ (made : Call). IsTold g.D.Disk first (Whole made) s c.run_checkpoint.new.store c.run_checkpoint.new.disk s.kept c.run_checkpoint.result) (sym is)
    (c.run_checkpoint.ensures.replies honest first s at same (subst (λ (made : Call). IsFree (caller made) s.kept) is none)))

pub returns-then-is_unbuilt-clause-replies : goal.returns-then-is_unbuilt-clause-replies
returns-then-is_unbuilt-clause-replies g c = λ honest first s at same none.
    subst (λ (l : Kept). IsTold g.D.Disk first (Whole c.args.call) s c.evict.new.store c.evict.new.disk l c.evict.result) same (c.evict.ensures.replies honest first s at same none)
