use Rattle.std.proofs.Common.{refl, subst, sym}
use Rattle.wt_calls.specs.declared.call.Call.{Call}
use Rattle.script_text.specs.declared.line.Line.TheVariants.{Start}
use Rattle.script_run.specs.Runs.{IsTold}
use Rattle.script_run.specs.Scripts.{IsFree, IsUnbuilt, caller}
use Rattle.script_run.proofs.Holding.{not_later}
use Rattle.script_run.proofs.one_line.reply_to_start.Goals as goal

pub start_evicting-requires-clause-other : goal.start_evicting-requires-clause-other
start_evicting-requires-clause-other g c = c.in_default.ensures.none refl

pub reply_to_actor-requires-clause-now : goal.reply_to_actor-requires-clause-now
reply_to_actor-requires-clause-now g c = not_later c.is_unbuilt.result (IsUnbuilt c.args.call) c.if-is_unbuilt.false c.is_unbuilt.ensures.1

pub returns-in-Some-clause-replies : goal.returns-in-Some-clause-replies
returns-in-Some-clause-replies g c = λ honest first s at same none.
    let is = c.in-Some.ensures.some in
    subst (λ (made : Call). IsTold g.D.Disk first (Start made) s c.start_call.new.store c.start_call.new.disk c.start_call.new.kept c.start_call.result) (sym is)
    (c.start_call.ensures.replies honest first s at same (subst (λ (made : Call). IsFree (caller made) s.kept) is none))

pub returns-then-is_unbuilt-clause-replies : goal.returns-then-is_unbuilt-clause-replies
returns-then-is_unbuilt-clause-replies g c = λ honest first s at same none. c.start_evicting.ensures.replies honest first s at same none
