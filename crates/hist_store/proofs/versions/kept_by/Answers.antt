use Rattle.std.proofs.Common.{arith, sym, ◌∙◌, ◌≡◌, length}
use Rattle.hist_store.specs.Versions.{is_past}
use Rattle.hist_store.proofs.Searching.{down-here, down-all}
use Rattle.hist_store.proofs.versions.kept_by.Goals as goal

pub returns-then-is_past : goal.returns-then-is_past
returns-then-is_past c = down-here (is_past c.args.pin c.args.floor) c.args.versions.now.items c.loop-i.i c.index.result.now (omega arith) c.loop-i.invariant c.index.ensures (sym c.is_past.ensures ∙ c.if-is_past.true)

pub returns : goal.returns
returns c = rw (let n : c.len.result ≡ length c.args.versions.now.items = omega arith in n) (down-all (is_past c.args.pin c.args.floor) c.args.versions.now.items (λ k lt d. c.loop-i.invariant k (omega arith) d))
