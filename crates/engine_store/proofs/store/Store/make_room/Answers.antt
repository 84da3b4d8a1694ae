use Rattle.std.proofs.Common.{List, None, ap, length}
use Rattle.call_steps.specs.State.{State}
use Rattle.engine_store.proofs.KeptAnswers.{own_same, told_own}
use Rattle.engine_store.proofs.WritingOut.{ready_alike}
use Rattle.engine_store.proofs.store.Store.make_room.Goals as goal

pub returns-clause-sessions : goal.returns-clause-sessions
returns-clause-sessions g c = ap (λ (l : List State). length l) c.evict_due.ensures.alike.alike.sessions

pub returns-clause-ready : goal.returns-clause-ready
returns-clause-ready g c = ready_alike c.args.self.now c.evict_due.new.self c.evict_due.ensures.alike.alike

pub returns-clause-told : goal.returns-clause-told
returns-clause-told g c = λ start le.
    let alike = c.evict_due.ensures.alike in
    told_own g.D.Disk None start c.args.disk.now c.evict_due.new.disk alike.disk c.args.self.now.engine c.evict_due.new.self.engine (own_same c.args.self.now.engine c.evict_due.new.self.engine alike.alike.sessions)
