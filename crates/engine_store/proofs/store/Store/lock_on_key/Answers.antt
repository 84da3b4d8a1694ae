use Rattle.std.proofs.Common.{refl}
use Rattle.wt_code.specs.declared.refusals.Refusal.TheVariants.{Busy}
use Rattle.wt_code.specs.declared.refusals.Busy.TheVariants.{Evicting as BusyEvicting}
use Rattle.engine_store.proofs.EvictTurns.{locked_key, never_locked, out_locked, some_more}
use Rattle.engine_store.proofs.store.Store.lock_on_key.Goals as goal

pub returns-in-None-clause-none : goal.returns-in-None-clause-none
returns-in-None-clause-none c = λ is w stands frame locked. out_locked c.args.self.now.engine w.machine c.args.evicting.now c.args.number c.args.table.now c.args.key.now (Busy (BusyEvicting frame)) (c.in-None.ensures.none refl w stands) locked

pub returns-in-Some-clause-some : goal.returns-in-Some-clause-some
returns-in-Some-clause-some c = some_more c.frame_if_locked.result
    (λ frame known. λ w stands. locked_key c.args.self.now.engine w.machine c.args.evicting.now c.args.number c.args.table.now c.args.key.now c.in-Some.target frame (c.in-Some.ensures.some w stands) known) c.frame_if_locked.ensures.some

pub returns-in-Some-clause-none : goal.returns-in-Some-clause-none
returns-in-Some-clause-none c = λ is w stands frame locked.
    never_locked c.args.self.now.engine w.machine c.args.evicting.now c.args.number c.args.table.now c.args.key.now c.in-Some.target (Busy (BusyEvicting frame)) (c.in-Some.ensures.some w stands) (c.frame_if_locked.ensures.none is) locked
