use Rattle.std.proofs.Common.{◌≡◌, length, arith}
use Rattle.std.specs.Prelude.{vec_len}
use Rattle.latch_table.specs.Opening.{shape}
use Rattle.hazard_table.proofs.Beginning.{begins, fresh_sessions}
use Rattle.hazard_table.proofs.pool.Pool.new.Goals as goal

pub new-requires-clause-joint : goal.new-requires-clause-joint
new-requires-clause-joint g c =
    let count : vec_len c.args.frames ≡ length c.args.frames.items = (let l = c.args.frames.ok.0 in omega arith) in
    let states : length c.args.states.now ≡ length c.args.frames.items = (let n = c.requires.states in omega arith) in
    begins g.L.Law.start (shape (vec_len c.args.frames) c.args.seats) g.L.Law.joint c.in-Ok.words.items c.args.states.now c.args.hub c.args.frames.items c.in-Ok.ensures count states c.requires.joint

pub returns-in-Ok-new-clause-sessions : goal.returns-in-Ok-new-clause-sessions
returns-in-Ok-new-clause-sessions g c = fresh_sessions g.L.Law.start c.in-Ok-new.pieces c.in-Ok-new.sessions.items c.in-Ok-new.ensures.seats
