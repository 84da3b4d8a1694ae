-- A step of an actor keeps what holds between two calls.
use Rattle.std.proofs.Common.{◌≡◌, ◌∙◌, ◌<◌, ℕ, List, Some, None, length, refl, sym, ap, subst, inl, inr}
use Rattle.std.specs.Prelude.{IsTrue, OnOk, Result, Ok, Err}
use Rattle.disk_model.specs.Crash.{Looked}
use Rattle.disk_model.specs.declared.disk.Disk.{Ghosts}
use Rattle.wt_code.specs.declared.refusals.Refusal.{Refusal}
use Rattle.kv_model.specs.Machine.{Completed}
use Rattle.call_steps.specs.declared.reply.Reply.{Reply}
use Rattle.call_steps.specs.declared.reply.Reply.TheVariants as reply
use Rattle.engine_world.specs.Stands.{Engine, Stands}
use Rattle.engine_world.specs.Steps.{MayKeepOut}
use Rattle.engine_world.specs.Worlds.{World}
use Rattle.engine.specs.declared.step.Actor.TheVariants as actor
use Rattle.engine.specs.declared.step.Step.{Step}
use Rattle.engine.specs.declared.step.Step.TheVariants.{Go, Start}
use Rattle.engine.specs.Directories.{HubGoesOn}
use Rattle.engine.specs.Runs.{MayStep, StepFits}
use Rattle.engine.specs.Sound.{AreBuilt}
use Rattle.engine.specs.Waits.{awaited_by, waits_in}
use Rattle.evict_step.specs.Kept.{Lists}
use Rattle.ckpt_step.proofs.Ordinary.{engines_are, fits_are}
use Rattle.engine_store.specs.declared.store.Store.{Store}
use Rattle.engine_store.specs.Calls.{CallKeeps, MayStepOn, Stepped}
use Rattle.engine_store.specs.Devices.{Installed}
use Rattle.engine_store.specs.Fetches.{CauseSince, ComesOrNot, IsReached, ReadiesOrNot, session_in}
use Rattle.engine_store.specs.Held.{IsHeld}
use Rattle.engine_store.specs.Keeping.{IsSameButKept, with_kept}
use Rattle.engine_store.proofs.Backed.{backed_held, held_goes, reached_first, ready_goes}
use Rattle.engine_store.proofs.Going.{Goes, goes_other, goes_out, goes_step, laid_step, ordinary_other}
use Rattle.engine_store.proofs.OtherRecords.{other_records, stands_other, step_other}

-- s, s': the store before the step and after it
pub record StepsOn {D : Type 0} (g : Ghosts D) (s s' : Store) (before after : D) (made : Step) (told : Reply) : Type 0 where
  pub led : IsTrue (g.honest before) → (w : World) → IsReached g s before w w → (later : World) × MayStepOn (CauseSince g before after s.frames w) w made told later × Stands s'.engine (with_kept s'.ground.kept later) × Goes w later
  pub hub : HubGoesOn s.engine.hub s'.engine.hub
  pub ground : IsSameButKept s.ground s'.ground
  pub running : s'.running ≡ s.running
  pub frames : s'.frames ≡ s.frames
  pub looked : Looked g before after
  pub home : g.home after ≡ g.home before

-- ---- the step is made, or the call is kept out

pub led_step : (Caused : World → Refusal → Type 0) (s : Store) (e : Engine) (was lists : Lists) (w : World) (made : Step) (told : Reply) → Stands s.engine (with_kept was w) → AreBuilt s.engine.systems → StepFits s.engine made → (later : World) × MayStep (with_kept lists w) made told later × Stands e later
    → (later : World) × MayStepOn Caused w made told later × Stands e (with_kept lists later) × Goes w later
led_step Caused s e was lists w made told stands built fits (later, may, now) =
    let then = other_records w.records later in
    let does = step_other w.records (with_kept lists w) later made told may in
    (then, inl does, stands_other e lists w later w.records (laid_step (with_kept lists w) later made told may) now, goes_step w then made told (ordinary_other w (with_kept was w).records (engines_are s.engine (with_kept was w) stands built)) ((fits_are s.engine).0 made fits) does)

pub led_out : (Caused : World → Refusal → Type 0) (s : Store) (e : Engine) (was lists : Lists) (w : World) (made : Step) (r : Refusal) → Stands s.engine (with_kept was w) → AreBuilt s.engine.systems
    → (session : ℕ) × (made ≡ Go (actor.Session session)) × Caused w r × (later : World) × MayKeepOut w session r later × Stands e (with_kept lists later) → (later : World) × MayStepOn Caused w made reply.More later × Stands e (with_kept lists later) × Goes w later
led_out Caused s e was lists w made r stands built (session, is, cause, later, out, now) = (later, inr (session, r, is, refl, cause, out), now, goes_out w later session r (ordinary_other w (with_kept was w).records (engines_are s.engine (with_kept was w) stands built)) out)

-- ---- the call of a step that waits for its leaf

pub goes_with : (made : Step) (session : ℕ) → session_in made ≡ Some session → made ≡ Go (actor.Session session)
goes_with (Go (actor.Session other)) session is = let same : other ≡ session = cc in ap (λ (n : ℕ). let step : Step = Go (actor.Session n) in step) same
goes_with (Go (actor.System number)) session is = absurd (cc)
goes_with (Start asked) session is = absurd (cc)

pub none_awaited : (e : Engine) (made : Step) → session_in made ≡ None → awaited_by e made ≡ None
none_awaited e (Go (actor.Session other)) is = absurd (cc)
none_awaited e (Go (actor.System number)) is = refl
none_awaited e (Start asked) is = refl

pub awaited_with : (e : Engine) (made : Step) (session : ℕ) → session_in made ≡ Some session → waits_in e session ≡ None → awaited_by e made ≡ None
awaited_with e made session is none = ap (λ (s : Step). awaited_by e s) (goes_with made session is) ∙ none

pub fits_with : (e e' : Engine) (made : Step) (session : ℕ) → session_in made ≡ Some session → length e'.sessions ≡ length e.sessions → StepFits e made → StepFits e' made
fits_with e e' made session is same fits =
    subst (λ (s : Step). StepFits e' s) (sym (goes_with made session is)) (subst (λ (n : ℕ). session < n) (sym same) (subst (λ (s : Step). StepFits e s) (goes_with made session is) fits))

pub readies : (Caused : Refusal → Type 0) (e : Engine) (lists : Lists) (now : World) (made : Step) (session : ℕ) (result : Result (Unit {0}) Refusal) → made ≡ Go (actor.Session session) → ComesOrNot Caused e lists now session result → ReadiesOrNot Caused e lists now made result
readies Caused e lists now made session (Ok done) is stands = stands
readies Caused e lists now made session (Err r) is (cause, later, out, stands) = (session, is, cause, later, out, stands)

pub on_ok : (result : Result (Unit {0}) Refusal) (P : Type 0) → P → OnOk result P
on_ok (Ok done) P p = p
on_ok (Err r) P p = tt

module _ {D : Type 0} (g : Ghosts D) (s s' : Store) (before after : D) (made : Step) (told : Reply) (x : StepsOn g s s' before after made told) where
  pub step_held : IsTrue (g.honest before) → (start : D) (w : World) (first : Completed) (installed : List Installed) → IsHeld g start s before w first installed → Stepped g start w first installed s s' before after made told
  step_held honest start w first installed held =
      let l = x.led honest w (reached_first g s before w held.stands (backed_held g start before s w first installed held)) in
      record { later = l.0; stepped = l.1; held = held_goes g s s' before after x.looked x.hub x.ground x.running start (with_kept s.ground.kept w) (with_kept s'.ground.kept l.0) first installed l.2 (λ leaf key. refl) (goes_other w l.0 (with_kept s.ground.kept w).records (with_kept s'.ground.kept l.0).records l.3) held }

  pub step_keeps : CallKeeps g s s' before after
  step_keeps = record {
    ready = ready_goes s s' x.hub x.ground;
    ground = x.ground;
    running = x.running;
    frames = x.frames;
    looked = x.looked;
    home = x.home;
  }
