use Rattle.std.proofs.Common.{rules}
use Rattle.latch_table.proofs.Seating.{forks}
use Rattle.latch_table.proofs.latched.Latched.make_seat.Goals as goal

pub split_seat-requires : goal.split_seat-requires
split_seat-requires g c = (
  search rules,
  search rules,
  rw (c.requires.table.2, c.requires.shape) (forks (g.L.Law.start _) (g.L.Law.start record { frames = 0; seats = 0 } 0) _ g.L.Law.joint _ c.requires.seat.0 c.requires.seat.1),
)
