use Rattle.std.proofs.Common.{ap, arith}
use Rattle.pool_law.specs.Keeping.{Own}
use Rattle.pool_law.proofs.Keepers.{may_write}
use Rattle.latch_table.specs.Tables.{knows, note_of}
use Rattle.hazard_law.specs.declared.known.Hazards.{Hazards}
use Rattle.hazard_law.specs.Safety.{inner}
use Rattle.hazard_law.specs.Words.{naming}
use Rattle.hazard_table.specs.Leaves.{own_word}
use Rattle.hazard_table.proofs.PinSteps.{named_here}
use Rattle.pool_trials.proofs.Keeping.{behind, published_keeper}
use Rattle.pool_trials.proofs.keep.point_at.Goals as goal

pub publish-requires-clause-session : goal.publish-requires-clause-session
publish-requires-clause-session c =
    c.requires.keeper.1.session

pub publish-requires-clause-beside : goal.publish-requires-clause-beside
publish-requires-clause-beside c =
    may_write 2 (inner (knows c.args.seat.now)) (own_word (knows c.args.seat.now) 0) (λ r. naming c.args.f) (behind c.args.pool.now.pieces c.args.seat.now c.requires.keeper.0 c.requires.keeper.1 0)

pub returns-clause-keeper : goal.returns-clause-keeper
returns-clause-keeper c =
    λ word k. published_keeper c.args.pool.now.pieces c.args.seat.now word k c.publish.new.seat c.publish.ensures.session c.publish.ensures.pieces 0 c.args.f c.publish.ensures.published

pub returns-clause-named : goal.returns-clause-named
returns-clause-named c =
    let p = c.publish.ensures.published in
    (named_here (note_of c.args.seat.now) (note_of c.publish.new.seat) p.1.0 0 c.args.f (omega arith) c.requires.keeper.1.session.marks p.1.2, ap (λ (z : Hazards Own). z.last_word) p.1.2)
