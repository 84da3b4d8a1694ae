use Rattle.std.proofs.Common.{rules}
use mathlib.Core.Option.{none}
use Rattle.atomic_table.specs.Table.{step}
use Rattle.latch_table.proofs.Keeps.{moves}
use Rattle.latch_table.proofs.latched.Latched.load_at.Goals as goal

pub load-requires : goal.load-requires
load-requires g c = (search rules, search rules, moves (g.L.Law.start _) _ g.L.Law.joint g.L.Law.finds g.M.Turn.turns g.L.Law.find_holds (λ x id v i m n j at t. g.L.Law.turn_keeps x id v i m n j at (g.met.M.Turn.allowed v i _ m n t)) _ c.args.word _ (step c.args.self.now.table.shared.table_id.slots c.args.at 0 0 none) (λ st r. r) c.requires.place.0 c.requires.seat c.requires.turns)
