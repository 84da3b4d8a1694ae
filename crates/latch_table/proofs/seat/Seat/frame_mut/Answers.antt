use Rattle.std.proofs.Common.{◌+◌, arith}
use Rattle.latch_table.proofs.Keeps.{inside}
use Rattle.latch_table.proofs.seat.Seat.frame_mut.Goals as goal

pub part_mut-requires : goal.part_mut-requires
part_mut-requires g c =
    let l = inside c.args.self.now.parts.items (c.args.f + 1) _ c.requires.held.1 in
    let r = c.args.self.now.parts.ok.0 in omega arith
