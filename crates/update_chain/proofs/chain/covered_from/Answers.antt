use Rattle.std.proofs.Common.{arith, sym, ◌∙◌, ◌≡◌, length}
use Rattle.update_chain.specs.Updates.{covers_at}
use Rattle.update_chain.proofs.ChainLemmas.{down-here, down-all}
use Rattle.update_chain.proofs.chain.covered_from.Goals as goal

pub returns-then-covers : goal.returns-then-covers
returns-then-covers c = down-here (covers_at c.args.pin c.args.floor) c.args.updates.now.items c.loop-i.i c.index.result.now (omega arith) c.loop-i.invariant c.index.ensures (sym c.covers.ensures ∙ c.if-covers.true)

pub returns : goal.returns
returns c = rw (let n : c.len.result ≡ length c.args.updates.now.items = omega arith in n) (down-all (covers_at c.args.pin c.args.floor) c.args.updates.now.items (λ k lt d. c.loop-i.invariant k (omega arith) d))
