use Rattle.std.proofs.Common.{rules, ◌∙◌, subst}
use Rattle.pool_law.specs.Whole.{Fits}
use Rattle.latch_table.proofs.Sitting.{sits_same, sits_latched, latched_me}
use Rattle.latch_table.proofs.latched.Latched.try_latch.Goals as goal

pub returns-then-seen-ne0-clause-seat : goal.returns-then-seen-ne0-clause-seat
returns-then-seen-ne0-clause-seat g c = let t = c.take-seen.ensures.took.1 (search rules) in sits_same _ _ _ _ c.requires.seat c.take-seen.ensures.same.0 t.0

pub returns-clause-seat : goal.returns-clause-seat
returns-clause-seat g c =
    let t = c.take-seen.ensures.took.0 (search rules) in
    let at = c.number_of-at.ensures in
    let e = c.exchange.ensures in
    let m = latched_me c.args.seat.now.raw.me c.take-seen.new.seat.me c.exchange.new.seat.me c.number_of-at.result t.0 c.exchange.result t.1 t.2 e.2 e.3 in
    sits_latched _ c.args.seat.now.raw c.exchange.new.seat c.args.seat.now.parts.items c.requires.seat (e.0 ∙ c.take-seen.ensures.same.0) t.1 c.number_of-at.result c.exchange.result m.1 (search rules) (subst (λ p. Fits c.number_of-at.result p) m.0 t.3) (search rules)
