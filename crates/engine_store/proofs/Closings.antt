-- A close: where it may come, and what the rolling back leaves of a checkpoint that runs.
use Rattle.std.proofs.Common.{◌≡◌, ℕ, ◌+◌, List, [], ◌∷◌, refl, sym, ◌∙◌, inr}
use Rattle.std.specs.Prelude.{Option, Some, None, Result, Ok, Err}
use Rattle.failure.specs.declared.Fault.{Fault}
use Rattle.disk_model.specs.declared.disk.Disk.{Ghosts}
use Rattle.wt_code.specs.declared.refusals.Busy.{Busy}
use Rattle.wt_code.specs.declared.refusals.Refusal.{Refusal}
use Rattle.kv_model.specs.Calls.{rolled_back}
use Rattle.kv_model.specs.Closing.{after_all, close_busy, rolling_back}
use Rattle.kv_model.specs.Machine.{EndTransaction, Machine, Phase, Running, Failed, Prepared, Resolving, Leaving, StartLeaving, Transaction, after, left, of_some, transaction_of}
use Rattle.stored.specs.Stored.{Stored}
use Rattle.engine_world.specs.Stands.{Engine, Stands}
use Rattle.engine_world.specs.Worlds.{World}
use Rattle.engine.specs.Closes.{MayClose, busy_in, close_told, unfinished_in}
use Rattle.engine_store.specs.Closes.{Closes, IsLast}
use Rattle.engine_store.specs.declared.store.Store.{Store}

-- where a close may come the engine is up, and nobody is in its way
told_free : (fault : Option Fault) (busy : Option Busy) → close_told fault busy ≡ Ok tt → (fault ≡ None) × (busy ≡ None)
told_free (Some fault) busy is = absurd cc
told_free None (Some busy) is = absurd cc
told_free None None is = (refl, refl)

pub up_of : (w : World) → MayClose w → w.machine.fault ≡ None
up_of w may = (told_free w.machine.fault (busy_in w) may).0

pub free_of : (w : World) → MayClose w → close_busy w.machine (unfinished_in w) ≡ None
free_of w may = (told_free w.machine.fault (busy_in w) may).1

-- ---- what the rolling back leaves

-- what it leaves as it was
pub record StaysSo (m next : Machine) : Type 0 where
  pub checkpoint : next.checkpoint ≡ m.checkpoint
  pub completed : next.completed ≡ m.completed
  pub fault : next.fault ≡ m.fault

so : (m : Machine) → StaysSo m m
so m = record { checkpoint = refl; completed = refl; fault = refl }

left_by : (m : Machine) (session : ℕ) (t : Transaction) (p : Phase) → StaysSo m (left p m session t)
left_by m session t (Prepared stamp) = record { checkpoint = refl; completed = refl; fault = refl }
left_by m session t Resolving = record { checkpoint = refl; completed = refl; fault = refl }
left_by m session t Running = record { checkpoint = refl; completed = refl; fault = refl }
left_by m session t Failed = record { checkpoint = refl; completed = refl; fault = refl }
left_by m session t Leaving = record { checkpoint = refl; completed = refl; fault = refl }

starts_leaving : (m : Machine) (session : ℕ) → StaysSo m (after m (StartLeaving session))
starts_leaving m session = by_there (transaction_of m session) where
  by_there : (o : Option Transaction) → StaysSo m (of_some m (λ t. left t.phase m session t) o)
  by_there None = so m
  by_there (Some t) = left_by m session t t.phase

rolls_by : (m : Machine) (at : ℕ) (sessions : List (Option Transaction)) → StaysSo m (after_all m (rolling_back at sessions))
rolls_by m at [] = so m
rolls_by m at (None ∷ later) = rolls_by m (at + 1) later
rolls_by m at (Some t ∷ later) =
    let rest = rolls_by (after (after m (StartLeaving at)) (EndTransaction at)) (at + 1) later in
    let first = starts_leaving m at in
    record { checkpoint = rest.checkpoint ∙ first.checkpoint; completed = rest.completed ∙ first.completed; fault = rest.fault ∙ first.fault }

pub stays_rolled : (m : Machine) → StaysSo m (rolled_back m)
stays_rolled m = rolls_by m 0 m.sessions

-- the checkpoint that runs
pub checkpoint_rolled : (m : Machine) → (rolled_back m).checkpoint ≡ m.checkpoint
checkpoint_rolled m = (stays_rolled m).checkpoint

-- ---- where a close may come

abbrev Tells : Engine → Result (Unit {0}) Refusal → Type 0
Tells e result = (w : World) → Stands e w → w.machine.checkpoint ≡ None → result ≡ close_told w.machine.fault (busy_in w)

pub may_roll : (e : Engine) (result : Result (Unit {0}) Refusal) (done : Unit {0}) → Tells e result → result ≡ Ok done → (w : World) → Stands e w → w.machine.checkpoint ≡ None → MayClose w
may_roll e result done tells is w st free = sym (tells w st free) ∙ is

-- ---- the answer

pub closes_last : {D : Type 0} (g : Ghosts D) (old : Option Stored) (w : World) (s s' : Store) (before after : D) (result : Result (Unit {0}) Refusal) → IsLast g old w s s' before after result → Closes g old w s s' before after result
closes_last g old w s s' before after (Ok done) last = last
closes_last g old w s s' before after (Err r) last = inr last
