use Rattle.std.proofs.Common.{rules}
use Rattle.latch_table.proofs.Keeps.{puts_back}
use Rattle.latch_table.proofs.latched.Latched.give.Goals as goal

pub store-requires : goal.store-requires
store-requires g c = let p = c.requires.puts in
    (search rules, search rules, puts_back (g.L.Law.start _) _ g.L.Law.joint g.L.Law.puts g.L.Law.put_keeps _ _ _ _ p.0 p.1 p.2 p.3 p.4 (search rules) (search rules) p.5 p.6 p.7 p.8)
