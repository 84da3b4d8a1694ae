use Rattle.std.proofs.Common.{rules}
use Rattle.latch_table.proofs.Keeps.{latches}
use Rattle.latch_table.proofs.latched.Latched.take.Goals as goal

pub compare_exchange-requires : goal.compare_exchange-requires
compare_exchange-requires g c = (search rules, search rules, latches (g.L.Law.start _) _ g.L.Law.joint g.L.Law.may_latch g.L.Law.told g.L.Law.latch_keeps _ _ _ _ (search rules) (search rules) (search rules))
