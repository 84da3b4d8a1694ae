-- A call of a session that began with nobody between, as its leaves come in or are kept from it.
use Rattle.std.proofs.Common.{◌≡◌, ◌∙◌, ◌≤◌, ℕ, List, Some, None, sym, ap, subst, inl, inr}
use Rattle.std.specs.Prelude.{Result, Ok, Err}
use Rattle.disk_model.specs.declared.disk.Disk.{Ghosts}
use Rattle.wt_code.specs.declared.answers.Answer.{Answer}
use Rattle.wt_code.specs.declared.refusals.Refusal.{Refusal}
use Rattle.kv_model.specs.Calls.{Call}
use Rattle.call_steps.specs.declared.stage.Stage.{Stage}
use Rattle.call_steps.specs.declared.stage.Stage.TheVariants as stage
use Rattle.engine_world.specs.Doings.{doing_at}
use Rattle.engine_world.specs.Stands.{Engine, Stands}
use Rattle.engine_world.specs.Steps.{MayKeepOut}
use Rattle.engine_world.specs.Whole.{Reached}
use Rattle.engine_world.specs.Worlds.{Doing, Resting, Asked, Placed, Decided, Ending, World, doing_of}
use Rattle.engine.specs.declared.called.Called.{Called}
use Rattle.engine.specs.declared.called.Called.TheVariants as called
use Rattle.engine.specs.Waits.{WaitsAs, waits_in}
use Rattle.engine.specs.Whole.{CallsIn, CallsKept, CallsTo, IsUnderWay, KeptBy, ResumesTo}
use Rattle.engine.proofs.Waited.{filling, held}
use Rattle.row_page.specs.Rows.{Row}
use Rattle.evict_step.specs.Kept.{Lists, older_in}
use Rattle.ckpt_step.specs.Floors.{laid_of}
use Rattle.engine_store.specs.declared.frames.Frames.{Frames}
use Rattle.engine_store.specs.declared.store.Store.{Store}
use Rattle.engine_store.specs.Fetches.{CallsBy, CauseSince, CausedSince, ComesOrNot, ReachesOrNot}
use Rattle.engine_store.specs.Keeping.{with_kept}
use Rattle.engine_store.proofs.Fetching.{rose_since}
use Rattle.engine_store.proofs.Going.{laid_calls}
use Rattle.engine_store.proofs.OtherRecords.{calls_other, other_records, out_other, stands_other, under_other}

-- with the same on the shelf the history has the same of what is kept
kept_alike : (lists : Lists) (w now : World) → now.shelf ≡ w.shelf → other_records (with_kept lists w).records now ≡ with_kept lists now
kept_alike lists w now same = ap (λ (shelf : ℕ → List Row). other_records (older_in shelf lists) now) (sym same)

-- a call that is under way in a world is so in that in which the history has what is kept
under_with : (kept : KeptBy) (lists : Lists) (w now : World) (session : ℕ) (asked : Call) → IsUnderWay kept w session asked now → IsUnderWay kept (with_kept lists w) session asked (with_kept lists now)
under_with kept lists w now session asked under =
    subst (λ (x : World). IsUnderWay kept (with_kept lists w) session asked x) (kept_alike lists w now (ap (λ (x : World). x.shelf) under.moved_to)) (under_other (with_kept lists w).records kept w now session asked under)

-- nothing was kept from a call that waits for a leaf
pub under_none : (kept : KeptBy) (e : Engine) (lists : Lists) (w now : World) (session leaf : ℕ) (asked : Call) → IsUnderWay kept w session asked now → Stands e (with_kept lists now) → waits_in e session ≡ Some leaf → IsUnderWay None w session asked now
under_none kept e lists w now session leaf asked under st waits =
    let h = held e session leaf waits in
    let f = filling h.state.stage h.state leaf h.on in
    let is : doing_of now session ≡ doing_at (stage.Fill f.call f.wanted) e.hub.dir.leaves session h.state = st.doing session h.state h.at ∙ ap (λ (s : Stage). doing_at s e.hub.dir.leaves session h.state) f.stage_is in
    record {
      rests = under.rests;
      moved_to = under.moved_to;
      reached = subst (λ (d : Doing). Reached None w.machine session asked d now.machine) (sym is) (subst (λ (d : Doing). Reached kept w.machine session asked d now.machine) is under.reached);
    }

-- a call for which nothing was kept out
kept_none : (doing : Doing) (w later : World) (session : ℕ) (asked : Call) (answer : Answer (List ℕ)) → later.machine.fault ≡ w.machine.fault → CallsIn doing w session asked answer later → CallsKept None doing w session asked answer later
kept_none Resting w later session asked answer fault (answered, is) = (answered, fault, is)
kept_none (Asked other left) w later session asked answer fault refused = refused
kept_none (Placed other table left) w later session asked answer fault refused = refused
kept_none (Decided other event left) w later session asked answer fault refused = refused
kept_none (Ending other left) w later session asked answer fault refused = refused

module _ {D : Type 0} (g : Ghosts D) (frames : Frames) where
  pub never_kept : (first disk : D) (w : World) (session : ℕ) (asked : Call) → CausedSince g first disk frames w session asked None
  never_kept first disk w session asked r is = absurd (cc)

  pub kept_by : (first disk : D) (w now : World) (session : ℕ) (asked : Call) (r : Refusal) → IsUnderWay None w session asked now → CauseSince g first disk frames w now r → CausedSince g first disk frames w session asked (Some r)
  kept_by first disk w now session asked r under cause other is = let same : r ≡ other = cc in (now, under, subst (CauseSince g first disk frames w now) same cause)

  -- by reads since an earlier disk
  pub cause_since : (first mid last : D) (w now : World) (r : Refusal) → g.faults first ≤ g.faults mid → CauseSince g mid last frames w now r → CauseSince g first last frames w now r
  cause_since first mid last w now r le (inl none) = inl none
  cause_since first mid last w now r le (inr (inl (is, rose))) = inr (inl (is, rose_since (g.faults first) (g.faults mid) (g.faults last) le rose))
  cause_since first mid last w now r le (inr (inr other)) = inr (inr other)

  pub calls_since : (first mid last : D) (called : Called) (e : Engine) (lists : Lists) (w : World) (session : ℕ) (asked : Call) → g.faults first ≤ g.faults mid → CallsBy g mid last frames called e lists w session asked → CallsBy g first last frames called e lists w session asked
  calls_since first mid last (called.Ended answer) e lists w session asked le (kept, caused, later, may, stands) = (kept, (λ r is. let c = caused r is in (c.0, c.1, cause_since first mid last w c.0 r le c.2)), later, may, stands)
  calls_since first mid last (called.Waits leaf) e lists w session asked le waits = waits

  -- some world is that of the engine
  pub calls_stand : (first last : D) (called : Called) (e : Engine) (lists : Lists) (w : World) (session : ℕ) (asked : Call) → CallsBy g first last frames called e lists w session asked → (v : World) × Stands e (with_kept lists v)
  calls_stand first last (called.Ended answer) e lists w session asked (kept, caused, later, may, stands) = (later, stands)
  calls_stand first last (called.Waits leaf) e lists w session asked (now, under, stands) = (now, stands)

  -- ---- a call begins

  pub calls_to : (disk : D) (called : Called) (e : Engine) (lists : Lists) (w : World) (session : ℕ) (asked : Call) → e.hub.fault ≡ w.machine.fault → CallsTo called e (with_kept lists w) session asked → CallsBy g disk disk frames called e lists w session asked
  calls_to disk (called.Ended answer) e lists w session asked fault (later, may, stands) = (
    None,
    never_kept disk disk w session asked,
    other_records w.records later,
    kept_none (doing_of w session) w (other_records w.records later) session asked answer (sym stands.fault ∙ fault) (calls_other w.records (doing_of w session) (with_kept lists w) later session asked answer may),
    stands_other e lists w later w.records (laid_calls (doing_of w session) (with_kept lists w) session asked answer later may) stands,
  )
  calls_to disk (called.Waits leaf) e lists w session asked fault (now, under, stands) = (
    other_records w.records now,
    under_other w.records None (with_kept lists w) now session asked under,
    stands_other e lists w now w.records (ap laid_of under.moved_to) stands,
  )

  -- ---- and goes on

  calls_resumed : (first disk : D) (called : Called) (e : Engine) (lists : Lists) (kept : KeptBy) (w : World) (session : ℕ) (asked : Call) → doing_of w session ≡ Resting → CausedSince g first disk frames w session asked kept → e.hub.fault ≡ w.machine.fault → WaitsAs called e session → ResumesTo called e kept (with_kept lists w) session asked
      → CallsBy g first disk frames called e lists w session asked
  calls_resumed first disk (called.Ended answer) e lists kept w session asked rests caused fault waits (later, answered, is, stands) = (
    kept,
    caused,
    other_records w.records later,
    subst (λ (d : Doing). CallsKept kept d w session asked answer (other_records w.records later)) (sym rests) (answered, sym stands.fault ∙ fault, ap (other_records w.records) is),
    stands_other e lists w later w.records (ap laid_of is) stands,
  )
  calls_resumed first disk (called.Waits leaf) e lists kept w session asked rests caused fault waits (now, under, stands) =
      let there : Stands e (with_kept lists (other_records w.records now)) = stands_other e lists w now w.records (ap laid_of under.moved_to) stands in
      (other_records w.records now, under_none kept e lists w (other_records w.records now) session leaf asked (under_other w.records kept (with_kept lists w) now session asked under) there waits.0, there)

  pub calls_go : (first disk : D) (e e' : Engine) (lists : Lists) (w now : World) (session : ℕ) (asked : Call) (made : Result (Unit {0}) Refusal) (called : Called) → ReachesOrNot (CauseSince g first disk frames w now) e lists w session asked now made
      → ((kept : KeptBy) (x : World) → IsUnderWay kept (with_kept lists w) session asked x → Stands e x → ResumesTo called e' kept (with_kept lists w) session asked) → IsUnderWay None w session asked now → e'.hub.fault ≡ w.machine.fault → WaitsAs called e' session → CallsBy g first disk frames called e' lists w session asked
  calls_go first disk e e' lists w now session asked (Ok done) called stands resumes under fault waits =
      calls_resumed first disk called e' lists None w session asked under.rests (never_kept first disk w session asked) fault waits
      (resumes None (with_kept lists now) (under_with None lists w now session asked under) stands)
  calls_go first disk e e' lists w now session asked (Err r) called (cause, later, out, stands) resumes under fault waits =
      calls_resumed first disk called e' lists (Some r) w session asked under.rests (kept_by first disk w now session asked r under cause) fault waits
      (resumes (Some r) (with_kept lists later) (under_with (Some r) lists w later session asked out) stands)

-- ---- a leaf is kept from a call

-- the engine and what is kept stayed
pub still_stands : (s s' : Store) (now : World) → s'.engine ≡ s.engine → s'.ground.kept ≡ s.ground.kept → Stands s.engine (with_kept s.ground.kept now) → Stands s'.engine (with_kept s'.ground.kept now)
still_stands s s' now engine kept stands =
    subst (λ (e : Engine). Stands e (with_kept s'.ground.kept now)) (sym engine) (subst (λ (lists : Lists). Stands s.engine (with_kept lists now)) (sym kept) stands)

pub under_kept : (lists : Lists) (w now : World) (session : ℕ) (asked : Call) → IsUnderWay None w session asked now → IsUnderWay None (with_kept lists w) session asked (with_kept lists now)
under_kept lists w now session asked under = under_with None lists w now session asked under

-- a step of the world in which the history has what is kept is one of the world itself
pub comes_not : (Caused : Refusal → Type 0) (e : Engine) (lists : Lists) (now : World) (session : ℕ) (r : Refusal) → Caused r → (later : World) × MayKeepOut (with_kept lists now) session r later × Stands e later → ComesOrNot Caused e lists now session (Err r)
comes_not Caused e lists now session r cause (later, out, stands) = (
  cause,
  other_records now.records later,
  out_other now.records (with_kept lists now) later session r out,
  stands_other e lists now later now.records (ap laid_of out.leaves) stands,
)

pub reaches_not : (Caused : Refusal → Type 0) (e : Engine) (lists : Lists) (w now : World) (session : ℕ) (asked : Call) (r : Refusal) → Caused r → (later : World) × IsUnderWay (Some r) (with_kept lists w) session asked later × Stands e later → ReachesOrNot Caused e lists w session asked now (Err r)
reaches_not Caused e lists w now session asked r cause (later, under, stands) = (
  cause,
  other_records w.records later,
  under_other w.records (Some r) (with_kept lists w) later session asked under,
  stands_other e lists w later w.records (ap laid_of under.moved_to) stands,
)
