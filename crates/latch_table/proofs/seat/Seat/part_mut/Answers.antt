use Rattle.std.proofs.Common.{refl, arith}
use Rattle.atomic_table.proofs.Lists.{at_index}
use Rattle.latch_table.proofs.seat.Seat.part_mut.Goals as goal

pub returns : goal.returns
returns g c = ((refl, λ w. refl), record { writes_back = tt; value = at_index c.args.self.now.parts.items c.args.at c.index_mut.result.now (let l = c.args.self.now.parts.ok.0 in let r = c.requires in omega arith) c.index_mut.ensures.value })
