use Rattle.std.proofs.Common.{◌≡◌, sym, ◌∙◌, true, arith}
use Rattle.row_page.specs.Rows.{Row}
use Rattle.row_page.specs.Views.{row_seen}
use Rattle.snapshot.specs.Sight.{is_seen}
use Rattle.engine.proofs.EachBelow.{each-all, each-more}
use Rattle.evict_step.proofs.held.row_unseen.Goals as goal

pub returns-clause-none : goal.returns-clause-none
returns-clause-none c = λ is. each-all (λ (r : Row). is_seen c.args.live.now.sight r.1.window.name ≡ true) c.args.page.now
    (λ i r less. c.loop-i.invariant i r (let end = c.loop-i-test.false in let count = c.len-i-end.ensures in omega (arith, less, end, count)))

pub loop-i-preserved : goal.loop-i-preserved
loop-i-preserved c = each-more (λ (r : Row). is_seen c.args.live.now.sight r.1.window.name ≡ true) c.args.page.now c.loop-i.i (row_seen c.cell.result) c.loop-i.invariant c.cell.ensures (sym c.sees.ensures ∙ c.if-not-sees.false)
