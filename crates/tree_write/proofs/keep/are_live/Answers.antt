use Rattle.std.proofs.Common.{arith}
use Rattle.std.proofs.lemmas.Bool.{false≢true}
use Rattle.device_layout.specs.declared.addr.Addr.{Addr}
use Rattle.tree_write.proofs.Keeping.{live_at}
use Rattle.tree_write.proofs.keep.are_live.Goals as goal

pub returns-then-not-is_live : goal.returns-then-not-is_live
returns-then-not-is_live c =
    let none : Addr = record { offset = 0; size = 0; sum = 0 } in (
      (λ is. absurd (false≢true is)),
      λ live. let is = c.is_live.ensures.1 (live_at c.args.blocks.now.cells c.args.addrs.now c.loop-addr.addr-index none live c.loop-addr-test.true) in absurd (let isnt = c.if-not-is_live.true in first_of (cc, grind arith)),
    )
