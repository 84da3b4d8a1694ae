use Rattle.latch_table.proofs.Opening.{opens}
use Rattle.latch_table.proofs.latched.Latched.open.Goals as goal

pub new-requires : goal.new-requires
new-requires g c = opens _ (g.L.Law.start _) _ g.L.Law.joint _ _ c.requires
