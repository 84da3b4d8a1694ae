use Rattle.std.proofs.Common.{rules}
use Rattle.latch_table.proofs.Seating.{absorbs}
use Rattle.latch_table.proofs.latched.Latched.absorb.Goals as goal

pub join_seat-requires : goal.join_seat-requires
join_seat-requires g c = let s = c.requires.seats in (
  search rules,
  search rules,
  search rules,
  search rules,
  absorbs (g.L.Law.start _) _ _ g.L.Law.joint _ _ _ _ s.0 s.1 s.2,
)
