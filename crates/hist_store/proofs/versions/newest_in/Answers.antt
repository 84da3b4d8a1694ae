use Rattle.std.proofs.Common.{arith, sym, ◌∙◌}
use Rattle.hist_store.specs.Versions.{is_admitted}
use Rattle.hist_store.proofs.Searching.{find-here, find-nowhere, none-more}
use Rattle.hist_store.proofs.versions.newest_in.Goals as goal

pub returns-then-is_admitted : goal.returns-then-is_admitted
returns-then-is_admitted c = sym (find-here (is_admitted c.args.view.now) c.args.versions.now.items c.loop-i.i c.index-version.result.now (omega arith) c.loop-i.invariant c.index-version.ensures (sym c.is_admitted.ensures ∙ c.if-is_admitted.true))

pub loop-i-preserved : goal.loop-i-preserved
loop-i-preserved c = none-more (is_admitted c.args.view.now) c.args.versions.now.items c.loop-i.i c.index-version.result.now (omega arith) c.loop-i.invariant c.index-version.ensures (sym c.is_admitted.ensures ∙ c.if-is_admitted.false)

pub returns : goal.returns
returns c = sym (find-nowhere (is_admitted c.args.view.now) c.args.versions.now.items (λ k lt d. c.loop-i.invariant k (omega arith) d))
