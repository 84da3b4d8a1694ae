-- Steps of calls beside evictions, which turn them away from locked frames.
use Rattle.std.proofs.Common.{◌≡◌, ◌∙◌, ◌≤◌, ℕ, zero, suc, List, Option, None, length, refl, sym, ap, subst, inl, inr, arith}
use Rattle.std.specs.Prelude.{◌+◌, IsTrue}
use Rattle.std.proofs.lemmas.Option.{get_or_from_slice_get, same_Some}
use Rattle.failure.specs.Counts.{Rose}
use Rattle.disk_model.specs.declared.disk.Disk.{Ghosts}
use Rattle.disk_model.proofs.Crash.{looked_then}
use Rattle.tree_open.proofs.Steps.{looked_none}
use Rattle.wt_code.specs.declared.answers.Answer.{Answer}
use Rattle.wt_code.specs.declared.refusals.Refusal.{Refusal}
use Rattle.wt_code.specs.declared.refusals.Refusal.TheVariants.{Again}
use Rattle.kv_model.specs.Machine.{Completed}
use Rattle.call_steps.specs.declared.reply.Reply.{Reply}
use Rattle.call_steps.specs.declared.reply.Reply.TheVariants as reply
use Rattle.call_steps.specs.declared.stage.Target.{Target}
use Rattle.call_turns.specs.Turns.{IsNoAnswer}
use Rattle.engine_world.specs.Stands.{Engine, Stands}
use Rattle.engine_world.specs.Steps.{MayGo, MayKeepOut}
use Rattle.engine_world.specs.Worlds.{World}
use Rattle.engine.specs.declared.step.Actor.{Actor}
use Rattle.engine.specs.declared.step.Actor.TheVariants as by
use Rattle.engine.specs.declared.step.Step.{Step}
use Rattle.engine.specs.declared.step.Step.TheVariants.{Go, Start}
use Rattle.engine.specs.declared.turning.Evicting.{Evicting}
use Rattle.engine.specs.Directories.{HubGoesOn}
use Rattle.engine.specs.Sound.{AreBuilt}
use Rattle.engine.specs.Turning.{IsTurned, LocksFrame, LocksIn, evicting_by}
use Rattle.engine.proofs.Ending.{is-more}
use Rattle.engine_store.specs.declared.frames.Frames.{Frames}
use Rattle.engine_store.specs.declared.store.Store.{Store}
use Rattle.engine_store.specs.Beside.{FinishedBeside, IsCauseBeside, StepTurnsAway, SteppedBeside, TurnsAway}
use Rattle.engine_store.specs.Calls.{AreToldSo, Basis, CallKeeps, EndsBy, EndsIn, Finished, GoesOrKept, Holding, IsBasis, MayAnswerSo, MayReplySo, MayStepOn, Stepped, TellsSo}
use Rattle.engine_store.specs.Devices.{Installed}
use Rattle.engine_store.specs.Fetches.{CauseSince, GoesIn, session_in}
use Rattle.engine_store.specs.Full.{MayBeFull}
use Rattle.engine_store.specs.Held.{IsHeld}
use Rattle.engine_store.specs.Keeping.{with_kept}
use Rattle.engine_store.proofs.Backed.{held_goes}
use Rattle.engine_store.proofs.Fetching.{rose_later, rose_since}
use Rattle.engine_store.proofs.Going.{goes_other}
use Rattle.engine_store.proofs.MoreSessions.{with_engine}
use Rattle.engine_store.proofs.OtherRecords.{kept_more}
use Rattle.engine_store.proofs.Stepping.{led_out}
use Rattle.engine_store.proofs.StepsGoing.{ends_then, in_more, in_then, or_more}
use Rattle.engine_store.proofs.UnderWay.{comes_not}

-- ---- why a leaf is kept from a call, as `CauseSince`, beside these evictions

abbrev pub CauseBesideSince : {D : Type 0} → Ghosts D → D → D → Frames → List (Option Evicting) → World → World → Refusal → Type 0
CauseBesideSince g first disk frames evicting w now r = IsCauseBeside evicting (Rose (g.faults first) (g.faults disk)) (MayBeFull frames now) w.machine.fault r

-- ---- for more causes

module _ (P Q : World → Refusal → Type 0) (more : (v : World) (r : Refusal) → P v r → Q v r) where
  pub stepped_more : (w next : World) (made : Step) (told : Reply) → MayStepOn P w made told next → MayStepOn Q w made told next
  stepped_more w next made told (inl may) = inl may
  stepped_more w next made told (inr (session, r, is, tells, cause, out)) = inr (session, r, is, tells, more w r cause, out)

  pub ends_more : (n : ℕ) (w : World) (session : ℕ) (answer : Answer (List ℕ)) (last : World) → EndsIn P n w session answer last → EndsIn Q n w session answer last
  ends_more zero w session answer last is = is
  ends_more (suc n) w session answer last (next, one, rest) = (next, or_more P Q more w session next one, ends_more n next session answer last rest)

  pub ended_more : (w : World) (who : Actor) (answer : Answer (List ℕ)) (last : World) → EndsBy P w who answer last → EndsBy Q w who answer last
  ended_more w (by.Session session) answer last (n, ends) = (n, ends_more n w session answer last ends)
  ended_more w (by.System number) answer last ends = ends

module _ {D : Type 0} (g : Ghosts D) (s s' : Store) (before after : D) (evicting : List (Option Evicting)) where
  pub stepped_beside : (made : Step) (told : Reply) → Holding g s before (λ start w first installed. Stepped g start w first installed s s' before after made told)
      → Holding g s before (λ start w first installed. SteppedBeside g start w first installed s s' before after evicting made told)
  stepped_beside made told steps honest start w first installed held =
      let x = steps honest start w first installed held in
      record {
        later = x.later;
        stepped = stepped_more (CauseSince g before after s.frames w) (CauseBesideSince g before after s.frames evicting w) (λ v r cause. inl cause) w x.later made told x.stepped;
        held = x.held;
      }

  pub finished_beside : (who : Actor) (answer : Answer (List ℕ)) → Holding g s before (λ start w first installed. Finished g start w first installed s s' before after who answer)
      → Holding g s before (λ start w first installed. FinishedBeside g start w first installed s s' before after evicting who answer)
  finished_beside who answer ends honest start w first installed held =
      let x = ends honest start w first installed held in
      record {
        later = x.later;
        ended = ended_more (CauseSince g before after s.frames w) (CauseBesideSince g before after s.frames evicting w) (λ v r cause. inl cause) w who answer x.later x.ended;
        held = x.held;
      }

-- ---- a call that comes to a locked frame

pub same_seen : (e : Engine) (session : ℕ) (evicting : List (Option Evicting)) (seen other : ℕ) → IsTurned e session evicting seen → IsTurned e session evicting other → seen ≡ other
same_seen e session evicting seen other x y =
    let target : x.target ≡ y.target = same_Some x.target y.target (sym x.comes ∙ y.comes) in
    x.sees.above ∙ (ap (λ (t : Target). t.word + 1) target ∙ sym y.sees.above)

-- where there is no eviction no frame is locked
none_locks : (evicting : List (Option Evicting)) → ((number : ℕ) → evicting_by evicting number ≡ None) → (number frame word : ℕ) → LocksFrame evicting number frame word → ⊥
none_locks evicting none number frame word (x, at, locks) = subst (λ (y : Option Evicting). LocksIn y frame word) (sym (get_or_from_slice_get evicting number x None at) ∙ none number) locks

pub never_turned : (evicting : List (Option Evicting)) → ((number : ℕ) → evicting_by evicting number ≡ None) → (e e' : Engine) (made : Step) (told : Reply) → StepTurnsAway evicting e e' made told
never_turned evicting none e e' (Go (by.Session session)) told = λ seen x. absurd (none_locks evicting none x.sees.number x.target.frame x.target.word x.sees.locks)
never_turned evicting none e e' (Go (by.System number)) told = tt
never_turned evicting none e e' (Start made) told = tt

pub turned_with : (evicting : List (Option Evicting)) (e e' : Engine) (made : Step) (told : Reply) (session : ℕ) → made ≡ Go (by.Session session) → TurnsAway evicting e e' session told → StepTurnsAway evicting e e' made told
turned_with evicting e e' made told session is turns = subst (λ (step : Step). StepTurnsAway evicting e e' step told) (sym is) turns

pub none_turned : (evicting : List (Option Evicting)) (e e' : Engine) (made : Step) (told : Reply) → session_in made ≡ None → StepTurnsAway evicting e e' made told
none_turned evicting e e' (Go (by.Session session)) told is = absurd (cc)
none_turned evicting e e' (Go (by.System number)) told is = tt
none_turned evicting e e' (Start made) told is = tt

module _ {D : Type 0} (g : Ghosts D) (s : Store) (e : Engine) (disk : D) (evicting : List (Option Evicting)) (session seen : ℕ) (turned : IsTurned s.engine session evicting seen)
    (steps : (w : World) → Stands s.engine w → (later : World) × MayKeepOut w session (Again seen) later × Stands e later) (goes : HubGoesOn s.engine.hub e.hub) (built : AreBuilt s.engine.systems) where
  pub turned_held : Holding g s disk (λ start w first installed. SteppedBeside g start w first installed s (with_engine s e) disk disk evicting (Go (by.Session session)) reply.More)
  turned_held honest start w first installed held =
      let kept = s.ground.kept in
      let cause : CauseBesideSince g disk disk s.frames evicting w w (Again seen) = inr (turned.target.frame, turned.target.word, seen, refl, turned.sees) in
      let out = comes_not (CauseBesideSince g disk disk s.frames evicting w w) e kept w session (Again seen) cause (steps (with_kept kept w) held.stands) in
      let l = led_out (CauseBesideSince g disk disk s.frames evicting w) s e kept kept w (Go (by.Session session)) (Again seen) held.stands built (session, refl, out.0, out.1, out.2, out.3) in
      record {
        later = l.0;
        stepped = l.1;
        held = held_goes g s (with_engine s e) disk disk (looked_none g disk) goes refl refl start (with_kept kept w) (with_kept kept l.0) first installed l.2 (λ leaf key. refl) (goes_other w l.0 (with_kept kept w).records (with_kept kept l.0).records l.3) held;
      }

-- ---- steps, one after the other

-- a step behind which the call goes on
step_goes : (P Q : World → Refusal → Type 0) → ((v : World) (r : Refusal) → P v r → Q v r) → (w next : World) (session : ℕ) (told : Reply) → IsNoAnswer told → MayStepOn P w (Go (by.Session session)) told next → GoesOrKept Q w session next
step_goes P Q more w next session told none (inl may) = inl (subst (λ (t : Reply). MayGo w session t next) (is-more w next session told none may) may)
step_goes P Q more w next session told none (inr (other, r, is, tells, cause, out)) = let same : session ≡ other = cc in inr (r, more w r cause, subst (λ (n : ℕ). MayKeepOut w n r next) (sym same) out)

-- the one that answers
step_ends : (P : World → Refusal → Type 0) (w next : World) (session : ℕ) (answer : Answer (List ℕ)) → MayStepOn P w (Go (by.Session session)) (reply.Answer answer) next → MayGo w session (reply.Answer answer) next
step_ends P w next session answer (inl may) = may
step_ends P w next session answer (inr (other, r, is, tells, cause, out)) = absurd (let clash : reply.Answer answer ≡ reply.More = tells in cc)

-- what each call of an actor keeps, one after the other
pub keeps_then : {D : Type 0} (g : Ghosts D) (a b c : Store) (first mid last : D) → CallKeeps g a b first mid → CallKeeps g b c mid last → CallKeeps g a c first last
keeps_then g a b c first mid last one two = record {
  ready = λ was. two.ready (one.ready was);
  ground = kept_more a.ground b.ground c.ground one.ground two.ground;
  running = two.running ∙ one.running;
  frames = two.frames ∙ one.frames;
  looked = looked_then g first mid last one.looked two.looked;
  home = two.home ∙ one.home;
}

pub keeps_none : {D : Type 0} (g : Ghosts D) (s : Store) (disk : D) → CallKeeps g s s disk disk
keeps_none g s disk = record { ready = λ was. was; ground = refl; running = refl; frames = refl; looked = looked_none g disk; home = refl }

-- one step of a session's call
pub record OneStep {D : Type 0} (g : Ghosts D) (s s' : Store) (before after : D) (evicting : List (Option Evicting)) (session : ℕ) (told : Reply) : Type 0 where
  pub stepped : Holding g s before (λ start w first made. SteppedBeside g start w first made s s' before after evicting (Go (by.Session session)) told)
  pub tells : TellsSo g s s' before after (λ basis start. MayReplySo g basis start after told)
  pub keeps : CallKeeps g s s' before after
  pub fault : s'.engine.hub.fault ≡ s.engine.hub.fault
  pub sessions : length s'.engine.sessions ≡ length s.engine.sessions

-- steps were made, and the call goes on. first, s: as it began; disk, s': as they are
pub record GoneBeside {D : Type 0} (g : Ghosts D) (first disk : D) (s s' : Store) (evicting : List (Option Evicting)) (session : ℕ) : Type 0 where
  pub held : Holding g s first (λ start w origin made. (n : ℕ) × (now : World) × GoesIn (CauseBesideSince g first disk s.frames evicting w) n w session now × IsHeld g start s' disk now origin made)
  pub tells : TellsSo g s s' first disk (λ basis start. Unit {0})
  pub keeps : CallKeeps g s s' first disk
  pub fault : s'.engine.hub.fault ≡ s.engine.hub.fault
  pub sessions : length s'.engine.sessions ≡ length s.engine.sessions

pub gone_none : {D : Type 0} (g : Ghosts D) (disk : D) (s : Store) (evicting : List (Option Evicting)) (session : ℕ) → GoneBeside g disk disk s s evicting session
gone_none g disk s evicting session = record {
  held = λ honest start w origin made held. (0, w, refl, held);
  tells = λ basis start le on told. (tt, told, on);
  keeps = keeps_none g s disk;
  fault = refl;
  sessions = refl;
}

module _ {D : Type 0} (g : Ghosts D) (first disk disk' : D) (s s' s'' : Store) (evicting : List (Option Evicting)) (session : ℕ) (told : Reply) (gone : GoneBeside g first disk s s' evicting session) (one : OneStep g s' s'' disk disk' evicting session told) where
  abbrev Cause : World → World → Refusal → Type 0
  Cause w = CauseBesideSince g first disk' s.frames evicting w

  -- a cause of the steps before
  sooner : (w v : World) (r : Refusal) → CauseBesideSince g first disk s.frames evicting w v r → Cause w v r
  sooner w v r (inl (inl short)) = inl (inl short)
  sooner w v r (inl (inr (inl (is, rose)))) = inl (inr (inl (is, rose_later (g.faults first) (g.faults disk) (g.faults disk') one.keeps.looked.count rose)))
  sooner w v r (inl (inr (inr other))) = inl (inr (inr other))
  sooner w v r (inr out) = inr out

  -- one of this step
  here : (w now v : World) (r : Refusal) → now.machine.fault ≡ w.machine.fault → CauseBesideSince g disk disk' s'.frames evicting now v r → Cause w v r
  here w now v r same (inl (inl short)) = inl (inl short)
  here w now v r same (inl (inr (inl (is, rose)))) = inl (inr (inl (is, rose_since (g.faults first) (g.faults disk) (g.faults disk') gone.keeps.looked.count rose)))
  here w now v r same (inl (inr (inr (inl (f, is, down))))) = inl (inr (inr (inl (f, is, sym same ∙ down))))
  here w now v r same (inl (inr (inr (inr (is, full))))) = inl (inr (inr (inr (is, subst (λ (f : Frames). MayBeFull f v) gone.keeps.frames full))))
  here w now v r same (inr out) = inr out

  fault_on : (start : D) (w now : World) (origin : Completed) (made : List Installed) → IsHeld g start s first w origin made → IsHeld g start s' disk now origin made → now.machine.fault ≡ w.machine.fault
  fault_on start w now origin made held later = sym later.stands.fault ∙ (gone.fault ∙ held.stands.fault)

  honest_then : IsTrue (g.honest first) → IsTrue (g.honest disk)
  honest_then honest = gone.keeps.looked.same ∙ honest

  both_told : (basis : Option Basis) (start : D) → g.faults start ≤ g.faults first → IsBasis g basis s.engine first → AreToldSo g basis start s.engine first → MayReplySo g basis start disk' told × AreToldSo g basis start s''.engine disk' × IsBasis g basis s''.engine disk'
  both_told basis start le on had = let x = gone.tells basis start le on had in let count = gone.keeps.looked.count in one.tells basis start (omega (arith, le, count)) x.2 x.1

  pub gone_more : IsNoAnswer told → GoneBeside g first disk' s s'' evicting session
  gone_more none = record {
    held = λ honest start w origin made held.
        let x = gone.held honest start w origin made held in
        let y = one.stepped (honest_then honest) start x.1 origin made x.3 in
        let goes = step_goes (CauseBesideSince g disk disk' s'.frames evicting x.1) (Cause w) (λ v r cause. here w x.1 v r (fault_on start w x.1 origin made held x.3) cause) x.1 y.later session told none y.stepped in
        let all = in_then (Cause w) session x.0 w x.1 1 y.later (in_more (CauseBesideSince g first disk s.frames evicting w) (Cause w) (sooner w) x.0 w session x.1 x.2) (y.later, goes, refl) in
        (all.0, y.later, all.1, y.held);
    tells = λ basis start le on had. let x = both_told basis start le on had in (tt, x.1, x.2);
    keeps = keeps_then g s s' s'' first disk disk' gone.keeps one.keeps;
    fault = one.fault ∙ gone.fault;
    sessions = one.sessions ∙ gone.sessions;
  }

  module _ (answer : Answer (List ℕ)) (is : told ≡ reply.Answer answer) where
    pub gone_ends : Holding g s first (λ start w origin made. FinishedBeside g start w origin made s s'' first disk' evicting (by.Session session) answer)
    gone_ends honest start w origin made held =
        let x = gone.held honest start w origin made held in
        let y = one.stepped (honest_then honest) start x.1 origin made x.3 in
        let ends = step_ends (CauseBesideSince g disk disk' s'.frames evicting x.1) x.1 y.later session answer
        (subst (λ (t : Reply). MayStepOn (CauseBesideSince g disk disk' s'.frames evicting x.1) x.1 (Go (by.Session session)) t y.later) is y.stepped) in
        record {
          later = y.later;
          ended = ends_then (Cause w) session x.0 w x.1 0 answer y.later (in_more (CauseBesideSince g first disk s.frames evicting w) (Cause w) (sooner w) x.0 w session x.1 x.2) ends;
          held = y.held;
        }

    pub gone_told : TellsSo g s s'' first disk' (λ basis start. MayAnswerSo g basis start disk' answer)
    gone_told basis start le on had = let x = both_told basis start le on had in (x.0 answer is, x.1, x.2)

  pub gone_keeps : CallKeeps g s s'' first disk'
  gone_keeps = keeps_then g s s' s'' first disk disk' gone.keeps one.keeps

-- ---- what is told

pub answer_told : {D : Type 0} (g : Ghosts D) (s s' : Store) (before after : D) (told : Reply) (answer : Answer (List ℕ)) → told ≡ reply.Answer answer → TellsSo g s s' before after (λ basis start. MayReplySo g basis start after told) → TellsSo g s s' before after (λ basis start. MayAnswerSo g basis start after answer)
answer_told g s s' before after told answer is tells basis start le on had = let x = tells basis start le on had in (x.0 answer is, x.1, x.2)

-- behind a step
pub more_told : {D : Type 0} (g : Ghosts D) (s b s' : Store) (before mid after : D) (answer : Answer (List ℕ)) (Told : Option Basis → D → Type 0) → CallKeeps g s b before mid → TellsSo g s b before mid Told → TellsSo g b s' mid after (λ basis start. MayAnswerSo g basis start after answer)
    → TellsSo g s s' before after (λ basis start. MayAnswerSo g basis start after answer)
more_told g s b s' before mid after answer Told keeps one two basis start le on had = let x = one basis start le on had in let count = keeps.looked.count in two basis start (omega (arith, le, count)) x.2 x.1
