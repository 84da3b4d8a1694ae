use Rattle.std.proofs.Common.{◌∙◌, sym, ap}
use Rattle.row_page.specs.Rows.{is_below}
use Rattle.stored.specs.TableTree.{Entry}
use Rattle.ckpt_step.proofs.EntryKeys.{below_all, last_get}
use Rattle.ckpt_step.proofs.leaves.may_begin_behind.Goals as goal

pub returns-in-Some-clause-above : goal.returns-in-Some-clause-above
returns-in-Some-clause-above c = λ is.
    let es = c.args.entries.now in
    below_all es c.in-Some.last.now c.args.low.now c.requires.climbs (sym (last_get es) ∙ sym c.in-Some.ensures.value)
    (ap (λ (e : Entry). is_below e.key c.args.low.now) (sym c.last-in-Some.view_is) ∙ (sym c.is_below.ensures ∙ is))
