-- Calls and steps of one event, for which no leaf is read, keep what holds between two calls.
use Rattle.std.proofs.Common.{◌≡◌, List, refl, subst}
use Rattle.disk_model.specs.declared.disk.Disk.{Ghosts}
use Rattle.tree_open.proofs.Steps.{looked_none}
use Rattle.kv_model.specs.Machine.{Completed}
use Rattle.engine_world.specs.Stands.{Engine, Stands}
use Rattle.engine_world.specs.Worlds.{World}
use Rattle.engine.specs.Directories.{HubGoesOn}
use Rattle.ckpt_step.specs.Floors.{laid_of}
use Rattle.engine_store.specs.declared.store.Store.{Store}
use Rattle.engine_store.specs.Calls.{CallKeeps}
use Rattle.engine_store.specs.Devices.{Installed}
use Rattle.engine_store.specs.Held.{IsHeld, IsHeldIn}
use Rattle.engine_store.specs.Keeping.{with_kept}
use Rattle.engine_store.proofs.Backed.{held_goes, ready_goes}
use Rattle.engine_store.proofs.Going.{Goes}
use Rattle.engine_store.proofs.MoreSessions.{with_engine}
use Rattle.engine_store.proofs.OtherRecords.{keeps_laid, other_records, same_kept}

module _ {D : Type 0} (g : Ghosts D) (disk : D) (s : Store) (e : Engine) (goes : HubGoesOn s.engine.hub e.hub) where
  -- later: what came of the world in which the history has what is kept
  pub event_held : (start : D) (w later : World) (first : Completed) (made : List Installed) → Stands e later → laid_of later ≡ laid_of (with_kept s.ground.kept w) → Goes (with_kept s.ground.kept w) later → IsHeld g start s disk w first made → IsHeld g start (with_engine s e) disk (other_records w.records later) first made
  event_held start w later first made stands laid on held =
      subst (λ (v : World). IsHeldIn g start (with_engine s e) disk v first made) (same_kept s.ground.kept w later laid)
      (held_goes g s (with_engine s e) disk disk (looked_none g disk) goes refl refl start (with_kept s.ground.kept w) later first made stands (keeps_laid s.ground.kept (with_kept s.ground.kept w) later laid (λ leaf key. refl)) on held)

  pub event_keeps : CallKeeps g s (with_engine s e) disk disk
  event_keeps = record { ready = ready_goes s (with_engine s e) goes refl; ground = refl; running = refl; frames = refl; looked = looked_none g disk; home = refl }
