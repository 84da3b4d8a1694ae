use Rattle.std.proofs.Common.{subst, sym}
use Rattle.script_run.specs.declared.kept.Kept.{Kept}
use Rattle.script_text.specs.declared.line.Control.{Control}
use Rattle.script_text.specs.declared.line.Control.TheVariants.{Checkpoint}
use Rattle.script_run.specs.Runs.{IsTold, RepliedAs}
use Rattle.script_text.specs.declared.line.Line.TheVariants.{Control as OfAll}
use Rattle.script_run.proofs.control.control.Goals as goal

pub returns-in-Checkpoint-clause-replies : goal.returns-in-Checkpoint-clause-replies
returns-in-Checkpoint-clause-replies g c = λ honest first s at same.
    subst (λ (a : Control). IsTold g.D.Disk first (OfAll a) s c.checkpoint.new.store c.checkpoint.new.disk c.args.kept.now c.checkpoint.result) (sym c.in-Checkpoint.is)
    (subst (λ (l : Kept). IsTold g.D.Disk first (OfAll Checkpoint) s c.checkpoint.new.store c.checkpoint.new.disk l c.checkpoint.result) same (c.checkpoint.ensures.replies honest first s at same))

pub returns-in-Close-clause-replies : goal.returns-in-Close-clause-replies
returns-in-Close-clause-replies g c = λ honest first s at same.
    subst (λ (a : Control). RepliedAs g.D.Disk first (OfAll a) s c.close.new.store c.close.new.disk c.close.new.kept c.close.result) (sym c.in-Close.is)
    (c.close.ensures.replies honest first s at same)

pub returns-in-Crash-clause-replies : goal.returns-in-Crash-clause-replies
returns-in-Crash-clause-replies g c = λ honest first s at same.
    subst (λ (a : Control). RepliedAs g.D.Disk first (OfAll a) s c.reopen_as_it_was.new.store c.reopen_as_it_was.new.disk c.reopen_as_it_was.new.kept c.reopen_as_it_was.result) (sym c.in-Crash.is)
    (c.reopen_as_it_was.ensures.replies honest first s at)

pub returns-in-Frames-clause-replies : goal.returns-in-Frames-clause-replies
returns-in-Frames-clause-replies g c = λ honest first s at same.
    subst (λ (a : Control). RepliedAs g.D.Disk first (OfAll a) s c.reopen.new.store c.reopen.new.disk c.reopen.new.kept c.reopen.result) (sym c.in-Frames.is)
    (c.reopen.ensures.replies honest first s at)
