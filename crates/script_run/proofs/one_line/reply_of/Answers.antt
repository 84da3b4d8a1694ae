use Rattle.std.proofs.Common.{ap, sym, subst}
use Rattle.script_text.specs.declared.line.Line.{Line}
use Rattle.script_text.specs.declared.line.Line.TheVariants.{Whole}
use Rattle.script_run.specs.declared.kept.Kept.{Kept}
use Rattle.script_run.specs.Runs.{IsReplied}
use Rattle.script_run.proofs.one_line.reply_of.Goals as goal

pub returns-in-Whole-clause-replied : goal.returns-in-Whole-clause-replied
returns-in-Whole-clause-replied g c = λ honest first s at same.
    subst (λ (asked : Line). IsReplied g.D.Disk first s c.whole.new.store c.whole.new.disk asked c.args.kept.now c.whole.result) (sym c.in-Whole.is)
    (subst (λ (l : Kept). IsReplied g.D.Disk first s c.whole.new.store c.whole.new.disk (Whole c.in-Whole.call) l c.whole.result) same (c.whole.ensures.replied honest first s at (ap (λ (k : Kept). k.evicting) same)))
