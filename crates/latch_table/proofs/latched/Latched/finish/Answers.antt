use Rattle.latch_table.proofs.Seating.{leaves}
use Rattle.latch_table.proofs.latched.Latched.finish.Goals as goal

pub returns-clause-leaves : goal.returns-clause-leaves
returns-clause-leaves g c = let s = c.requires.seat in leaves (g.L.Law.start _) (g.L.Law.start record { frames = 0; seats = 0 } 0) _ g.L.Law.joint _ _ _ _ s.0 s.1 c.requires.all c.close_with.ensures.values.2
