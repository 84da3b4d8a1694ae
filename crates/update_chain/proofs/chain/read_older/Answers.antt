use Rattle.std.proofs.Common.{arith, sym, ap, ◌∙◌}
use Rattle.update_chain.specs.Updates.{decides, reply_to}
use Rattle.update_chain.proofs.ChainLemmas.{find-here, find-none, none-more}
use Rattle.update_chain.proofs.chain.read_older.Goals as goal

pub returns-then-decides : goal.returns-then-decides
returns-then-decides c = (c.answer.ensures ∙ sym (ap (reply_to c.args.view.now)
    (find-here (decides c.args.view.now) c.args.older.now.items c.loop-i.i c.index-update.result.now (omega arith) c.loop-i.invariant c.index-update.ensures (sym c.decides.ensures ∙ c.if-decides.true))))

pub loop-i-preserved : goal.loop-i-preserved
loop-i-preserved c = none-more (decides c.args.view.now) c.args.older.now.items c.loop-i.i c.index-update.result.now (omega arith) c.loop-i.invariant c.index-update.ensures (sym c.decides.ensures ∙ c.if-decides.false)

pub returns : goal.returns
returns c = (sym (ap (reply_to c.args.view.now) (find-none (decides c.args.view.now) c.args.older.now.items (λ k lt d. c.loop-i.invariant k (omega arith) d))))
