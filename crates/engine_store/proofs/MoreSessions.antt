-- A session more keeps what holds between two calls.
use Rattle.std.proofs.Common.{◌≡◌, ℕ, List, refl, ap}
use Rattle.std.specs.Prelude.{length, IfOk, OnErr, Result, Ok, Err}
use Rattle.disk_model.specs.declared.disk.Disk.{Ghosts}
use Rattle.tree_open.proofs.Steps.{looked_none}
use Rattle.wt_code.specs.declared.refusals.Refusal.{Refusal}
use Rattle.kv_model.specs.Machine.{Completed}
use Rattle.engine_world.specs.Stands.{Engine, Stands}
use Rattle.engine_world.specs.Worlds.{World}
use Rattle.engine.specs.Directories.{HubGoesOn}
use Rattle.engine.specs.Sound.{AreBuilt}
use Rattle.engine.specs.Whole.{with_session_more}
use Rattle.ckpt_step.proofs.Ordinary.{engines_are}
use Rattle.engine_store.specs.declared.store.Store.{Store}
use Rattle.engine_store.specs.Calls.{MayOpen}
use Rattle.engine_store.specs.Devices.{Installed}
use Rattle.engine_store.specs.Held.{IsHeld}
use Rattle.engine_store.specs.Keeping.{with_kept}
use Rattle.engine_store.proofs.Backed.{held_goes}
use Rattle.engine_store.proofs.Going.{goes_more}

-- the store with its engine as it is now
abbrev pub with_engine : Store → Engine → Store
with_engine s e = record s { engine = e }

same_store : (s : Store) (e : Engine) → e ≡ s.engine → with_engine s e ≡ s
same_store s e is = ap (λ (x : Engine). with_engine s x) is

module _ {D : Type 0} (g : Ghosts D) where
  pub opens : (start disk : D) (s : Store) (e : Engine) (w : World) (first : Completed) (made : List Installed) (result : Result ℕ Refusal) → IsHeld g start s disk w first made → AreBuilt s.engine.systems
      → IfOk result (λ n. (n ≡ length s.engine.sessions) × Stands e (with_session_more (with_kept s.ground.kept w))) → OnErr result (e ≡ s.engine) → HubGoesOn s.engine.hub e.hub → MayOpen g start w first made s (with_engine s e) disk disk result
  opens start disk s e w first made (Ok number) held built opened kept goes = record {
    number_is = opened.0;
    held = held_goes g s (with_engine s e) disk disk (looked_none g disk) goes refl refl start (with_kept s.ground.kept w) (with_session_more (with_kept s.ground.kept w)) first made opened.1 held.kept (goes_more (with_kept s.ground.kept w) (engines_are s.engine (with_kept s.ground.kept w) held.stands built)) held;
  }
  opens start disk s e w first made (Err r) held built opened kept goes = same_store s e kept
