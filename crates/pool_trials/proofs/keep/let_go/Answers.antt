use Rattle.pool_law.proofs.Keepers.{may_write}
use Rattle.latch_table.specs.Tables.{knows}
use Rattle.hazard_law.specs.Safety.{inner}
use Rattle.hazard_table.specs.Leaves.{own_word}
use Rattle.pool_trials.proofs.Keeping.{behind, unpinned_keeper}
use Rattle.pool_trials.proofs.keep.let_go.Goals as goal

pub unpin-requires-clause-session : goal.unpin-requires-clause-session
unpin-requires-clause-session c =
    c.requires.keeper.1.session

pub unpin-requires-clause-beside : goal.unpin-requires-clause-beside
unpin-requires-clause-beside c =
    may_write 2 (inner (knows c.args.seat.now)) (own_word (knows c.args.seat.now) 0) (λ r. 0) (behind c.args.pool.now.pieces c.args.seat.now c.requires.keeper.0 c.requires.keeper.1 0)

pub returns-clause-keeper : goal.returns-clause-keeper
returns-clause-keeper c =
    λ word k. unpinned_keeper c.args.pool.now.pieces c.args.seat.now word k c.unpin.new.seat c.unpin.ensures.session c.unpin.ensures.pieces 0 c.unpin.ensures.unpinned
