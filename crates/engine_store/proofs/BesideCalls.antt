-- A whole call of a session beside evictions: its steps, with nobody between.
use Rattle.std.proofs.Common.{◌≡◌, ◌∙◌, ◌≤◌, ◌<◌, ℕ, zero, suc, List, Option, Some, None, length, refl, sym, ap, subst, inl, inr, arith}
use Rattle.std.specs.Prelude.{slice_set}
use Rattle.std.proofs.lemmas.List.{set-get_or}
use Rattle.disk_model.specs.declared.disk.Disk.{Ghosts}
use Rattle.wt_code.specs.declared.answers.Answer.{Answer}
use Rattle.wt_code.specs.declared.answers.Answer.TheVariants as answers
use Rattle.wt_code.specs.declared.refusals.Refusal.{Refusal}
use Rattle.wt_code.specs.declared.refusals.Refusal.TheVariants as refusal
use Rattle.wt_code.specs.declared.refusals.Invalid.TheVariants.{InCall}
use Rattle.kv_model.specs.Calls.{Call, SessionAnswers}
use Rattle.kv_model.specs.Machine.{Completed, Machine}
use Rattle.wt_calls.specs.declared.session_call.SessionCall.{SessionCall}
use Rattle.wt_calls.specs.declared.call.Call.TheVariants as call
use Rattle.wt_calls.specs.Calls.{session_call_in}
use Rattle.call_steps.specs.declared.reply.Reply.{Reply}
use Rattle.call_steps.specs.declared.reply.Reply.TheVariants as reply
use Rattle.call_turns.specs.Turns.{IsNoAnswer}
use Rattle.engine_world.specs.Steps.{BeginsIn, IsKeptOut, Made, MayBegin, MayKeepOut}
use Rattle.engine_world.specs.Whole.{KeptOutReaches, Reached, StepsReach, around_kept}
use Rattle.engine_world.specs.Worlds.{Doing, Resting, Asked, Placed, Decided, Ending, World, doing_of, unset}
use Rattle.engine.specs.declared.step.Actor.TheVariants as by
use Rattle.engine.specs.declared.step.Step.TheVariants.{Start}
use Rattle.engine.specs.declared.turning.Evicting.{Evicting}
use Rattle.engine.specs.Whole.{CallsKept, IsUnderWay, KeptBy, moved}
use Rattle.engine.proofs.Calling.{again-back, begun-under, comes, comes-to, kept-under}
use Rattle.engine_store.specs.declared.frames.Frames.{Frames}
use Rattle.engine_store.specs.declared.store.Store.{Store}
use Rattle.engine_store.specs.Beside.{CalledBeside, FinishedBeside}
use Rattle.engine_store.specs.Calls.{Called, EndsIn, Holding, MayStepOn, Stepped}
use Rattle.engine_store.specs.Devices.{Installed}
use Rattle.engine_store.specs.Fetches.{CauseSince}
use Rattle.engine_store.specs.Full.{MayBeFull}
use Rattle.engine_store.specs.Held.{IsHeld, IsHeldIn}
use Rattle.engine_store.specs.Keeping.{with_kept}
use Rattle.engine_store.specs.Loads.{IsCaused}
use Rattle.engine_store.proofs.BesideSteps.{CauseBesideSince}
use Rattle.engine_store.proofs.Fetching.{rose_since}

-- ---- a call under way whose leaf is kept from it

placed_none : (d : Doing) (kept : KeptBy) (from m : Machine) (session : ℕ) (asked : Call) (r : Refusal) (made : Made) → IsKeptOut d r m made → Reached kept from session asked d m → Reached None from session asked d m
placed_none Resting kept from m session asked r made out reached = absurd out
placed_none (Asked other left) kept from m session asked r made out reached = absurd out
placed_none (Placed other table left) kept from m session asked r made out reached = reached
placed_none (Decided answer event left) kept from m session asked r made out reached = absurd out
placed_none (Ending answer left) kept from m session asked r made out reached = absurd out

-- nothing was kept from it before
none_before : (kept : KeptBy) (w now later : World) (session : ℕ) (asked : Call) (r : Refusal) → IsUnderWay kept w session asked now → MayKeepOut now session r later → IsUnderWay None w session asked now
none_before kept w now later session asked r under out = record {
  rests = under.rests;
  moved_to = under.moved_to;
  reached = placed_none (doing_of now session) kept w.machine now.machine session asked r out.made out.keeps under.reached;
}

-- ---- what its steps come to

pub record CameTo (P : World → Refusal → Type 0) (w : World) (session : ℕ) (asked : Call) (answer : Answer (List ℕ)) (last : World) : Type 0 where
  pub kept : KeptBy
  pub caused : IsCaused P w session asked kept
  pub answers : SessionAnswers (around_kept kept) w.machine session asked answer last.machine
  pub moved_to : last ≡ moved w session last.machine Resting

module _ (steps : StepsReach) (outs : KeptOutReaches) (P : World → Refusal → Type 0) (w : World) (session : ℕ) (asked : Call) (answer : Answer (List ℕ)) (inside : session < length w.sessions) where
  came : (n : ℕ) (kept : KeptBy) → IsCaused P w session asked kept → (now last : World) → IsUnderWay kept w session asked now → EndsIn P n now session answer last → CameTo P w session asked answer last
  came zero kept caused now last under is =
      let x = comes steps kept w.machine w session asked answer inside 0 now last under.moved_to under.reached is in
      record { kept = kept; caused = caused; answers = x.answers; moved_to = x.moved_to }
  came (suc n) kept caused now last under (next, inl goes, rest) = came n kept caused next last (comes-to steps kept w session asked inside 1 now next under (next, goes, refl)) rest
  came (suc n) kept caused now last under (next, inr (r, cause, out), rest) =
      let before = none_before kept w now next session asked r under out in
      came n (Some r) (λ other is. let same : r ≡ other = cc in (now, before, subst (P now) same cause)) next last (kept-under outs w now next session asked r inside before out) rest

  -- once it was begun
  pub begun_came : (d : Doing) → doing_of w session ≡ d → (told : Reply) (begun last : World) → BeginsIn d w session asked told begun → IsNoAnswer told → (n : ℕ) → EndsIn P n begun session answer last → (doing_of w session ≡ Resting) × CameTo P w session asked answer last
  begun_came Resting rests told begun last begins none n ends = (rests, came n None (λ r is. absurd (cc)) begun last (begun-under w begun session asked begins.0 rests inside begins.2) ends)
  begun_came (Asked other left) rests told begun last begins none n ends = absurd (none (answers.Refused (refusal.Invalid InCall)) begins.0)
  begun_came (Placed other table left) rests told begun last begins none n ends = absurd (none (answers.Refused (refusal.Invalid InCall)) begins.0)
  begun_came (Decided other event left) rests told begun last begins none n ends = absurd (none (answers.Refused (refusal.Invalid InCall)) begins.0)
  begun_came (Ending other left) rests told begun last begins none n ends = absurd (none (answers.Refused (refusal.Invalid InCall)) begins.0)

-- the machine is the same once a call was begun
begun_machine : (d : Doing) (w begun : World) (session : ℕ) (asked : Call) (told : Reply) → BeginsIn d w session asked told begun → begun.machine ≡ w.machine
begun_machine Resting w begun session asked told begins = ap (λ (x : World). x.machine) begins.2
begun_machine (Asked other left) w begun session asked told begins = ap (λ (x : World). x.machine) begins.1
begun_machine (Placed other table left) w begun session asked told begins = ap (λ (x : World). x.machine) begins.1
begun_machine (Decided other event left) w begun session asked told begins = ap (λ (x : World). x.machine) begins.1
begun_machine (Ending other left) w begun session asked told begins = ap (λ (x : World). x.machine) begins.1

-- a call that is refused at once
refused_once : (d : Doing) (w later : World) (session : ℕ) (asked : Call) (answer : Answer (List ℕ)) → BeginsIn d w session asked (reply.Answer answer) later → CallsKept None d w session asked answer later
refused_once Resting w later session asked answer begins = absurd (let clash : reply.Answer answer ≡ reply.Started = begins.1 in cc)
refused_once (Asked other left) w later session asked answer begins = ((let e : reply.Answer answer ≡ reply.Answer (answers.Refused (refusal.Invalid InCall)) = begins.0 in cc), begins.1)
refused_once (Placed other table left) w later session asked answer begins = ((let e : reply.Answer answer ≡ reply.Answer (answers.Refused (refusal.Invalid InCall)) = begins.0 in cc), begins.1)
refused_once (Decided other event left) w later session asked answer begins = ((let e : reply.Answer answer ≡ reply.Answer (answers.Refused (refusal.Invalid InCall)) = begins.0 in cc), begins.1)
refused_once (Ending other left) w later session asked answer begins = ((let e : reply.Answer answer ≡ reply.Answer (answers.Refused (refusal.Invalid InCall)) = begins.0 in cc), begins.1)

-- a start keeps nothing out
start_begins : (P : World → Refusal → Type 0) (w later : World) (session : ℕ) (made : SessionCall) (told : Reply) → MayStepOn P w (Start (call.Session session made)) told later → MayBegin w session (session_call_in made) told later
start_begins P w later session made told (inl may) = may
start_begins P w later session made told (inr (other, r, is, tells, cause, out)) = absurd (cc)

-- ---- the session rests as before

module _ {D : Type 0} (g : Ghosts D) (start disk : D) (s : Store) (first : Completed) (made : List Installed) where
  again_held : (v : World) (session : ℕ) → IsHeldIn g start s disk (record v { again = unset session v.again }) first made → IsHeldIn g start s disk v first made
  again_held v session x = record {
    stands = again-back s.engine v session x.stands;
    running = x.running;
    kept = x.kept;
    bare = x.bare;
    on = λ up. let o = x.on up in record {
      old = o.old;
      on = o.on;
      follows = record { respects = o.follows.respects; leaf = o.follows.leaf; since = o.follows.since };
      since = o.since;
      opens = o.opens;
      one = o.one;
    };
    images = x.images;
    last = x.last;
    ever = x.ever;
    stays = x.stays;
    past = x.past;
  }

  rest_held : (w last : World) (session : ℕ) → doing_of w session ≡ Resting → last ≡ moved w session last.machine Resting → IsHeld g start s disk last first made → IsHeld g start s disk (record w { machine = last.machine }) first made
  rest_held w last session rests is held = again_held (with_kept s.ground.kept (record w { machine = last.machine })) session (subst (λ (v : World). IsHeldIn g start s disk v first made) same held) where
    same : with_kept s.ground.kept last ≡ record (with_kept s.ground.kept (record w { machine = last.machine })) { again = unset session w.again }
    same = ap (with_kept s.ground.kept) is
        ∙ (λ i. with_kept s.ground.kept (record w { machine = last.machine; sessions = (ap (slice_set w.sessions session) (sym rests) ∙ set-get_or w.sessions session Resting) i; again = unset session w.again }))

-- ---- a whole call

module _ {D : Type 0} (g : Ghosts D) (s s' : Store) (before after : D) (evicting : List (Option Evicting)) (session : ℕ) where
  pub called_beside : (asked : Call) (answer : Answer (List ℕ)) → Holding g s before (λ start w first made. Called g start w first made s s' before after session asked answer) → Holding g s before (λ start w first made. CalledBeside g start w first made s s' before after evicting session asked answer)
  called_beside asked answer calls honest start w first made held =
      let x = calls honest start w first made held in
      record { kept = x.kept; caused = λ r is. let c = x.caused r is in (c.0, c.1, inl c.2); later = x.later; called = x.called; held = x.held }

  pub refused_beside : (asked : SessionCall) (answer : Answer (List ℕ)) → Holding g s before (λ start w first made. Stepped g start w first made s s' before after (Start (call.Session session asked)) (reply.Answer answer))
      → Holding g s before (λ start w first made. CalledBeside g start w first made s s' before after evicting session (session_call_in asked) answer)
  refused_beside asked answer steps honest start w first made held =
      let x = steps honest start w first made held in
      let begins = start_begins (CauseSince g before after s.frames w) w x.later session asked (reply.Answer answer) x.stepped in
      record {
        kept = None;
        caused = λ r is. absurd (cc);
        later = x.later;
        called = refused_once (doing_of w session) w x.later session (session_call_in asked) answer begins;
        held = x.held;
      }

module _ {D : Type 0} (g : Ghosts D) (s b s' : Store) (before mid after : D) (evicting : List (Option Evicting)) (session : ℕ) (asked : SessionCall) (answer : Answer (List ℕ)) (told : Reply) where
  -- b, mid: once it was begun
  pub whole_beside : StepsReach → KeptOutReaches → session < length s.engine.sessions → IsNoAnswer told → g.honest mid ≡ g.honest before → g.faults before ≤ g.faults mid → b.frames ≡ s.frames → s'.engine.hub.fault ≡ b.engine.hub.fault
      → Holding g s before (λ start w first made. Stepped g start w first made s b before mid (Start (call.Session session asked)) told) → Holding g b mid (λ start w first made. FinishedBeside g start w first made b s' mid after evicting (by.Session session) answer)
      → Holding g s before (λ start w first made. CalledBeside g start w first made s s' before after evicting session (session_call_in asked) answer)
  whole_beside reach outs there none same le frames fault starts ends honest start w first made held =
      let x = starts honest start w first made held in
      let begins = start_begins (CauseSince g before mid s.frames w) w x.later session asked told x.stepped in
      let y = ends (same ∙ honest) start x.later first made x.held in
      let m : x.later.machine ≡ w.machine = begun_machine (doing_of w session) w x.later session (session_call_in asked) told begins in
      let inside : session < length w.sessions = (let long = held.stands.doings in omega (arith, there, long)) in
      let c = begun_came reach outs (CauseBesideSince g mid after b.frames evicting x.later) w session (session_call_in asked) answer inside (doing_of w session) refl told x.later y.later begins none y.ended.0 y.ended.1 in
      record {
        kept = c.1.kept;
        caused = λ r is. let k = c.1.caused r is in (k.0, k.1, caused x.later (ap (λ (n : Machine). n.fault) m) k.0 r k.2);
        later = record w { machine = y.later.machine };
        called = subst (λ (d : Doing). CallsKept c.1.kept d w session (session_call_in asked) answer (record w { machine = y.later.machine })) (sym c.0)
            (c.1.answers, sym y.held.stands.fault ∙ (fault ∙ (x.held.stands.fault ∙ ap (λ (n : Machine). n.fault) m)), refl);
        held = rest_held g start after s' first made w y.later session c.0 c.1.moved_to y.held;
      }
    where
      caused : (begun : World) → begun.machine.fault ≡ w.machine.fault → (now : World) (r : Refusal) → CauseBesideSince g mid after b.frames evicting begun now r → CauseBesideSince g before after s.frames evicting w now r
      caused begun is now r (inl (inl short)) = inl (inl short)
      caused begun is now r (inl (inr (inl (fault, rose)))) = inl (inr (inl (fault, rose_since (g.faults before) (g.faults mid) (g.faults after) le rose)))
      caused begun is now r (inl (inr (inr (inl (f, panics, down))))) = inl (inr (inr (inl (f, panics, sym is ∙ down))))
      caused begun is now r (inl (inr (inr (inr (told, full))))) = inl (inr (inr (inr (told, subst (λ (f : Frames). MayBeFull f now) frames full))))
      caused begun is now r (inr out) = inr out
