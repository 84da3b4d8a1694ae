-- A call goes on, leaf after leaf.
use Rattle.std.proofs.Common.{◌≡◌, ◌∙◌, ◌≤◌, ◌<◌, ℕ, List, length, Option, None, refl, sym, ap, subst, inl, inr, arith}
use Rattle.std.specs.Prelude.{IsTrue}
use Rattle.disk_model.specs.Crash.{Looked}
use Rattle.disk_model.specs.declared.disk.Disk.{Ghosts}
use Rattle.disk_model.proofs.Crash.{looked_then}
use Rattle.tree_open.proofs.Steps.{looked_none}
use Rattle.wt_code.specs.declared.refusals.Refusal.{Refusal}
use Rattle.kv_model.specs.Calls.{Call}
use Rattle.row_page.specs.Rows.{Row}
use Rattle.call_steps.specs.declared.hub.Hub.{Hub}
use Rattle.engine_world.specs.Stands.{Stands}
use Rattle.engine_world.specs.Worlds.{Records, World}
use Rattle.engine.specs.declared.called.Called.{Called}
use Rattle.engine.specs.declared.called.Called.TheVariants as called
use Rattle.engine.specs.Directories.{HubGoesOn}
use Rattle.engine.specs.Waits.{WaitsAs}
use Rattle.engine.specs.Whole.{Ends, IsUnderWay}
use Rattle.engine.proofs.Directories.{goes-then}
use Rattle.ckpt_step.specs.Floors.{laid_of}
use Rattle.engine_store.specs.declared.frames.Frames.{Frames}
use Rattle.engine_store.specs.declared.store.Store.{Store}
use Rattle.engine_store.specs.Calls.{AreToldSo, Basis, IsBasis}
use Rattle.engine_store.specs.Fetches.{CalledSo, CallsBy, CauseSince, IsBacked, IsReached, StepsBy}
use Rattle.engine_store.specs.Keeping.{IsSameButKept, with_kept}
use Rattle.engine_store.proofs.Backed.{backed_goes}
use Rattle.engine_store.proofs.Bases.{basis_on}
use Rattle.engine_store.proofs.Fetching.{rose_later}
use Rattle.engine_store.proofs.OtherRecords.{kept_more}
use Rattle.engine_store.proofs.StepsGoing.{IsMiddle, laid_in, steps_go, steps_stand}
use Rattle.engine_store.proofs.UnderWay.{calls_since, calls_stand}

-- first, s, made: the disk, the store and how far the call had come; disk, s', now: as they are
pub record GoneOn {D : Type 0} (g : Ghosts D) (first disk : D) (s s' : Store) (made now : Called) (session : ℕ) : Type 0 where
  pub calls : IsTrue (g.honest first) → (w : World) (asked : Call) → session < length w.sessions → s.engine.hub.fault ≡ w.machine.fault → IsBacked g s first w → CallsBy g first first s.frames made s.engine s.ground.kept w session asked
      → CallsBy g first disk s.frames now s'.engine s'.ground.kept w session asked × IsBacked g s' disk w
  pub steps : IsTrue (g.honest first) → (w : World) → s.engine.hub.fault ≡ w.machine.fault → IsBacked g s first w → StepsBy g first first s.frames made s.engine s.ground.kept w session → StepsBy g first disk s.frames now s'.engine s'.ground.kept w session × IsBacked g s' disk w
  pub told : (basis : Option Basis) (start : D) → g.faults start ≤ g.faults first → IsBasis g basis s.engine first → CalledSo g basis start first made → AreToldSo g basis start s.engine first → CalledSo g basis start disk now × AreToldSo g basis start s'.engine disk
  pub waits : WaitsAs now s'.engine session
  pub goes : (h : Hub) → HubGoesOn h s.engine.hub → HubGoesOn h s'.engine.hub
  pub fault : s'.engine.hub.fault ≡ s.engine.hub.fault
  pub ground : IsSameButKept s.ground s'.ground
  pub running : s'.running ≡ s.running
  pub frames : s'.frames ≡ s.frames
  pub sessions : length s'.engine.sessions ≡ length s.engine.sessions
  pub looked : Looked g first disk
  pub home : g.home disk ≡ g.home first

pub gone_none : {D : Type 0} (g : Ghosts D) (disk : D) (s : Store) (made : Called) (session : ℕ) → WaitsAs made s.engine session → GoneOn g disk disk s s made made session
gone_none g disk s made session waits = record {
  calls = λ h w asked there fault backed by. (by, backed);
  steps = λ h w fault backed by. (by, backed);
  told = λ basis start le on so told. (so, told);
  waits = waits;
  goes = λ h on. on;
  fault = refl;
  ground = refl;
  running = refl;
  frames = refl;
  sessions = refl;
  looked = looked_none g disk;
  home = refl;
}

-- what one round leaves
pub record OneRound {D : Type 0} (g : Ghosts D) (disk disk' : D) (s s' : Store) (now : Called) (session : ℕ) : Type 0 where
  pub calls : IsTrue (g.honest disk) → (w x : World) (asked : Call) → session < length w.sessions → IsReached g s disk w x → IsUnderWay None w session asked x → CallsBy g disk disk' s.frames now s'.engine s'.ground.kept w session asked
  pub steps : IsTrue (g.honest disk) → (w x : World) → IsReached g s disk w x → (middle : World) × IsMiddle (CauseSince g disk disk' s.frames w x) x session middle × Ends now s'.engine (with_kept s'.ground.kept middle) session
  pub told : (basis : Option Basis) (start : D) → g.faults start ≤ g.faults disk → IsBasis g basis s.engine disk → AreToldSo g basis start s.engine disk → CalledSo g basis start disk' now × AreToldSo g basis start s'.engine disk'
  pub waits : WaitsAs now s'.engine session
  pub goes : HubGoesOn s.engine.hub s'.engine.hub
  pub ground : IsSameButKept s.ground s'.ground
  pub running : s'.running ≡ s.running
  pub frames : s'.frames ≡ s.frames
  pub sessions : length s'.engine.sessions ≡ length s.engine.sessions
  pub looked : Looked g disk disk'
  pub home : g.home disk' ≡ g.home disk

module _ {D : Type 0} (g : Ghosts D) (first disk disk' : D) (s s' s'' : Store) (made now : Called) (session leaf : ℕ) (gone : GoneOn g first disk s s' made (called.Waits leaf) session) (one : OneRound g disk disk' s' s'' now session) where
  here : IsTrue (g.honest first) → IsTrue (g.honest disk)
  here honest = gone.looked.same ∙ honest

  -- the store is backed as it is now
  reach : (w x : World) → s.engine.hub.fault ≡ w.machine.fault → IsBacked g s' disk w → Stands s'.engine (with_kept s'.ground.kept x) → laid_of x ≡ laid_of w → IsReached g s' disk w x
  reach w x fault backed stands laid = record { backed = backed; stands = stands; fault = sym stands.fault ∙ (gone.fault ∙ fault); shelf = ap (λ (l : (ℕ → List Row) × Records). l.0) laid }

  backed_then : (w x v : World) → IsBacked g s' disk w → Stands s'.engine (with_kept s'.ground.kept x) → Stands s''.engine (with_kept s''.ground.kept v) → IsBacked g s'' disk' w
  backed_then w x v backed stands after = backed_goes g s' s'' disk disk' one.looked one.goes one.ground w stands.dir after.dir after.catalog backed

  calls_then : IsTrue (g.honest first) → (w : World) (asked : Call) → session < length w.sessions → s.engine.hub.fault ≡ w.machine.fault → IsBacked g s first w → CallsBy g first first s.frames made s.engine s.ground.kept w session asked → CallsBy g first disk' s.frames now s''.engine s''.ground.kept w session asked × IsBacked g s'' disk' w
  calls_then honest w asked there fault backed by =
      let x = gone.calls honest w asked there fault backed by in
      let at = x.0 in
      let reached = reach w at.0 fault x.1 at.2 (ap laid_of at.1.moved_to) in
      let next : CallsBy g disk disk' s.frames now s''.engine s''.ground.kept w session asked = subst (λ (f : Frames). CallsBy g disk disk' f now s''.engine s''.ground.kept w session asked) gone.frames (one.calls (here honest) w at.0 asked there reached at.1) in
      let stood = calls_stand g s.frames disk disk' now s''.engine s''.ground.kept w session asked next in
      (calls_since g s.frames first disk disk' now s''.engine s''.ground.kept w session asked gone.looked.count next, backed_then w at.0 stood.0 x.1 at.2 stood.1)

  later_cause : (w v : World) (r : Refusal) → CauseSince g first disk s.frames w v r → CauseSince g first disk' s.frames w v r
  later_cause w v r (inl none) = inl none
  later_cause w v r (inr (inl (is, rose))) = inr (inl (is, rose_later (g.faults first) (g.faults disk) (g.faults disk') one.looked.count rose))
  later_cause w v r (inr (inr other)) = inr (inr other)

  steps_then : IsTrue (g.honest first) → (w : World) → s.engine.hub.fault ≡ w.machine.fault → IsBacked g s first w → StepsBy g first first s.frames made s.engine s.ground.kept w session → StepsBy g first disk' s.frames now s''.engine s''.ground.kept w session × IsBacked g s'' disk' w
  steps_then honest w fault backed by =
      let x = gone.steps honest w fault backed by in
      let at = x.0 in
      let reached = reach w at.1 fault x.1 at.3 (laid_in (CauseSince g first disk s.frames w) session at.0 w at.1 at.2) in
      let next = one.steps (here honest) w at.1 reached in
      let middle : IsMiddle (CauseSince g disk disk' s.frames w at.1) at.1 session next.0 = subst (λ (f : Frames). IsMiddle (CauseSince g disk disk' f w at.1) at.1 session next.0) gone.frames next.1 in
      let steps = steps_go g s.frames first disk disk' now s''.engine s''.ground.kept w at.1 next.0 session at.0 gone.looked.count (later_cause w) at.2 middle next.2 in
      let stood = steps_stand g s.frames first disk' now s''.engine s''.ground.kept w session steps in
      (steps, backed_then w at.1 stood.0 x.1 at.3 stood.1)

  pub gone_more : GoneOn g first disk' s s'' made now session
  gone_more = record {
    calls = calls_then;
    steps = steps_then;
    told = λ basis start le on so told. one.told basis start (omega (arith, le, gone.looked.count)) (basis_on g basis s.engine s'.engine first disk gone.looked gone.goes on) (gone.told basis start le on so told).1;
    waits = one.waits;
    goes = λ h on. goes-then h s'.engine.hub s''.engine.hub (gone.goes h on) one.goes;
    fault = one.goes.fault ∙ gone.fault;
    ground = kept_more s.ground s'.ground s''.ground gone.ground one.ground;
    running = one.running ∙ gone.running;
    frames = one.frames ∙ gone.frames;
    sessions = one.sessions ∙ gone.sessions;
    looked = looked_then g first disk disk' gone.looked one.looked;
    home = one.home ∙ gone.home;
  }
