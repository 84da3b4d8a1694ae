-- What is left of a session's call keeps what holds between two calls.
use Rattle.std.proofs.Common.{◌≡◌, ◌∙◌, ◌≤◌, ℕ, List, Option, refl}
use Rattle.std.specs.Prelude.{IsTrue}
use Rattle.disk_model.specs.Crash.{Looked}
use Rattle.disk_model.specs.declared.disk.Disk.{Ghosts}
use Rattle.tree_open.proofs.Steps.{looked_none}
use Rattle.wt_code.specs.declared.answers.Answer.{Answer}
use Rattle.kv_model.specs.Machine.{Completed}
use Rattle.call_steps.specs.declared.hub.Hub.{Hub}
use Rattle.engine_world.specs.Stands.{Engine, Stands}
use Rattle.engine_world.specs.Worlds.{World}
use Rattle.engine.specs.declared.called.Called.{Called}
use Rattle.engine.specs.declared.called.Called.TheVariants as called
use Rattle.engine.specs.declared.step.Actor.TheVariants as by
use Rattle.engine.specs.Directories.{HubGoesOn}
use Rattle.engine.specs.Sound.{AreBuilt}
use Rattle.engine.specs.Told.{EndsFrom, KeepOwn, answer_in}
use Rattle.engine.specs.Whole.{Ends}
use Rattle.ckpt_step.proofs.Ordinary.{engines_are}
use Rattle.engine_store.specs.declared.store.Store.{Store}
use Rattle.engine_store.specs.Calls.{AreToldSo, Basis, CallKeeps, EndsIn, Finished, IsBasis, MayAnswerSo, TellsSo}
use Rattle.engine_store.specs.Devices.{Installed}
use Rattle.engine_store.specs.Keeping.{IsSameButKept, with_kept}
use Rattle.engine_store.specs.Fetches.{CalledSo, CauseSince, IsBacked, StepsBy}
use Rattle.engine_store.specs.Held.{IsHeld}
use Rattle.engine_store.proofs.Backed.{backed_goes, backed_held, held_goes, ready_goes}
use Rattle.engine_store.proofs.Bases.{basis_goes, basis_here}
use Rattle.engine_store.proofs.Going.{Goes, goes_other, ordinary_other}
use Rattle.engine_store.proofs.MoreSessions.{with_engine}
use Rattle.engine_store.proofs.StepsGoing.{goes_ends, steps_by, steps_stand}
use Rattle.engine_store.proofs.Telling.{called_told, keep_told}

-- e: the engine of the store once the call had come as far as it does by itself; s': the store at the end
pub record EndedLater {D : Type 0} (g : Ghosts D) (s : Store) (e : Engine) (s' : Store) (made : Called) (before after : D) (session : ℕ) (answer : Answer (List ℕ)) : Type 0 where
  pub steps : IsTrue (g.honest before) → (w : World) → e.hub.fault ≡ w.machine.fault → IsBacked g (with_engine s e) before w → StepsBy g before before s.frames made e s.ground.kept w session → StepsBy g before after s.frames (called.Ended answer) s'.engine s'.ground.kept w session
  pub ends : (w : World) → Stands s.engine w → Ends made e w session
  pub goes : HubGoesOn s.engine.hub e.hub
  pub on : (h : Hub) → HubGoesOn h e.hub → HubGoesOn h s'.engine.hub
  pub ground : IsSameButKept s.ground s'.ground
  pub running : s'.running ≡ s.running
  pub frames : s'.frames ≡ s.frames
  pub looked : Looked g before after
  pub home : g.home after ≡ g.home before
  pub told : (basis : Option Basis) (start : D) → g.faults start ≤ g.faults before → IsBasis g basis e before → CalledSo g basis start before made → AreToldSo g basis start e before → MayAnswerSo g basis start after answer × AreToldSo g basis start s'.engine after
  pub own : KeepOwn s.engine e
  pub tells : EndsFrom (answer_in s.engine session) made
  pub built : AreBuilt s.engine.systems

module _ {D : Type 0} (g : Ghosts D) (s : Store) (e : Engine) (s' : Store) (made : Called) (before after : D) (session : ℕ) (answer : Answer (List ℕ)) (x : EndedLater g s e s' made before after session answer) where
  hub : HubGoesOn s.engine.hub s'.engine.hub
  hub = x.on s.engine.hub x.goes

  -- how far the call had come, of a world for which the engine stood
  begun : (w : World) → Stands s.engine (with_kept s.ground.kept w) → StepsBy g before before s.frames made e s.ground.kept w session
  begun w stands = steps_by g s.frames before made e s.ground.kept w session (x.ends (with_kept s.ground.kept w) stands)

  backed_then : (w : World) → Stands s.engine (with_kept s.ground.kept w) → IsBacked g s before w → IsBacked g (with_engine s e) before w
  backed_then w stands backed =
      let stood = steps_stand g s.frames before before made e s.ground.kept w session (begun w stands) in
      backed_goes g s (with_engine s e) before before (looked_none g before) x.goes refl w stands.dir stood.1.dir stood.1.catalog backed

  record Led (w : World) : Type 0 where
    count : ℕ
    later : World
    ends : EndsIn (CauseSince g before after s.frames w) count w session answer later
    stands : Stands s'.engine (with_kept s'.ground.kept later)
    goes : Goes w later

  led : IsTrue (g.honest before) → (w : World) → Stands s.engine (with_kept s.ground.kept w) → IsBacked g s before w → Led w
  led honest w stands backed =
      let end = x.steps honest w (x.goes.fault ∙ stands.fault) (backed_then w stands backed) (begun w stands) in
      record {
        count = end.0;
        later = end.1;
        ends = end.2;
        stands = end.3;
        goes = goes_ends (CauseSince g before after s.frames w) session end.0 w end.1 answer (ordinary_other w (with_kept s.ground.kept w).records (engines_are s.engine (with_kept s.ground.kept w) stands x.built)) end.2;
      }

  pub finish_held : IsTrue (g.honest before) → (start : D) (w : World) (first : Completed) (installed : List Installed) → IsHeld g start s before w first installed → Finished g start w first installed s s' before after (by.Session session) answer
  finish_held honest start w first installed held =
      let l = led honest w held.stands (backed_held g start before s w first installed held) in
      record {
        later = l.later;
        ended = (l.count, l.ends);
        held = held_goes g s s' before after x.looked hub x.ground x.running start (with_kept s.ground.kept w) (with_kept s'.ground.kept l.later) first installed l.stands (λ leaf key. refl) (goes_other w l.later (with_kept s.ground.kept w).records (with_kept s'.ground.kept l.later).records l.goes) held;
      }

  pub finish_keeps : CallKeeps g s s' before after
  finish_keeps = record {
    ready = ready_goes s s' hub x.ground;
    ground = x.ground;
    running = x.running;
    frames = x.frames;
    looked = x.looked;
    home = x.home;
  }

  pub finish_told : TellsSo g s s' before after (λ basis start. MayAnswerSo g basis start after answer)
  finish_told basis start le on told =
      let ends = x.told basis start le (basis_here g basis s.engine e before x.goes on) (called_told g basis start before (answer_in s.engine session) made x.tells (told session)) (keep_told g basis start before s.engine e x.own told) in
      (ends.0, ends.1, basis_goes g basis s.engine s'.engine before after x.looked hub on)
