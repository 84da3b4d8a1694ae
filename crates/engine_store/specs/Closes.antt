-- What a close answers, and what it leaves.
use Rattle.std.specs.Prelude.{◌≡◌, ◌⊎◌, Option, Result, Ok, Err}
use Rattle.disk_model.specs.declared.disk.Disk.{Ghosts}
use Rattle.wt_code.specs.declared.refusals.Refusal.{Refusal}
use Rattle.kv_model.specs.Calls.{rolled_back}
use Rattle.stored.specs.Stored.{Stored}
use Rattle.engine_world.specs.Stands.{Engine, Stands}
use Rattle.engine_world.specs.Worlds.{World}
use Rattle.engine.specs.Closes.{MayClose, busy_in, close_told}
use Rattle.ckpt_step.specs.Takes.{Takes}
use Rattle.engine_store.specs.declared.store.Store.{Store}

-- the world once each transaction was rolled back
abbrev pub rolled : World → World
rolled w = record w { machine = rolled_back w.machine }

module _ {D : Type 0} (g : Ghosts D) (old : Option Stored) (w : World) (s s' : Store) (before after : D) where
  -- the engine is down, or a call is not finished: nothing is changed
  pub record IsKept (r : Refusal) : Type 0 where
    pub why : close_told w.machine.fault (busy_in w) ≡ Err r
    pub store : s' ≡ s
    pub disk : after ≡ before

  -- the transactions are rolled back, and a checkpoint is taken, or is not
  pub record IsLast (result : Result (Unit {0}) Refusal) : Type 0 where
    pub may : MayClose w
    pub middle : Engine
    pub stands : Stands middle (rolled w)
    pub takes : Takes g old (rolled w) s.ground s'.ground middle s'.engine before after result

  abbrev pub Closes : Result (Unit {0}) Refusal → Type 0
  Closes (Ok done) = IsLast (Ok done)
  Closes (Err r) = IsKept r ⊎ IsLast (Err r)
