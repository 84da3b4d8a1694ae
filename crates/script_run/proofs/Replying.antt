-- What the actor of a line is given, and one that could not be opened.
use Rattle.std.proofs.Common.{◌≡◌, ◌<◌, ℕ, List, length, refl, sym, subst, inl, inr}
use Rattle.std.specs.Prelude.{◌⊎◌, Option, Err}
use Rattle.failure.specs.Counts.{Rose}
use Rattle.disk_model.specs.declared.disk.Disk.{Ghosts}
use Rattle.disk_model.specs.Crash.{Looked}
use Rattle.item.specs.declared.formats.Formats.{Formats}
use Rattle.wt_code.specs.declared.answers.Answer.{Answer}
use Rattle.wt_code.specs.declared.answers.Answer.TheVariants.{Refused}
use Rattle.wt_code.specs.declared.refusals.Refusal.{Refusal}
use Rattle.wt_code.specs.declared.refusals.Refusal.TheVariants.{NoMemory}
use Rattle.wt_calls.specs.Calls.{session_call_in}
use Rattle.wt_calls.specs.declared.call.Call.{Call}
use Rattle.wt_calls.specs.declared.call.Call.TheVariants.{Session, System}
use Rattle.wt_calls.specs.declared.session_call.SessionCall.{SessionCall}
use Rattle.wt_calls.specs.declared.system_call.SystemCall.{SystemCall}
use Rattle.wt_calls.specs.declared.system_call.SystemCall.TheVariants as system
use Rattle.call_steps.specs.declared.reply.Reply.{Reply as Told}
use Rattle.script_text.specs.declared.replies.Reply.{Reply}
use Rattle.script_text.specs.declared.replies.Reply.TheVariants.{Answered}
use Rattle.script_text.specs.Stored.{stored_call, stored_system}
use Rattle.engine_world.specs.Stands.{Engine}
use Rattle.engine_world.specs.Worlds.{World}
use Rattle.engine.specs.declared.step.Actor.{Actor}
use Rattle.engine.specs.declared.step.Actor.TheVariants as by
use Rattle.engine.specs.declared.step.Step.{Step}
use Rattle.engine.specs.declared.step.Step.TheVariants.{Go, Start}
use Rattle.engine.specs.declared.turning.Evicting.{Evicting}
use Rattle.engine.specs.Runs.{IsBuilt, MayStep, StepFits}
use Rattle.engine_store.specs.declared.frames.Frames.{Frames}
use Rattle.engine_store.specs.declared.store.Store.{Store}
use Rattle.engine_store.specs.Beside.{CalledBeside, FinishedBeside, IsCauseBeside, SteppedBeside}
use Rattle.engine_store.specs.Calls.{EndsBy, Made, MayStepOn}
use Rattle.engine_store.specs.Devices.{Device, IsRead, device_of}
use Rattle.engine_store.specs.Full.{MayBeFull}
use Rattle.engine_store.specs.Loads.{IsCaused}
use Rattle.script_run.specs.declared.kept.Kept.{Kept}
use Rattle.script_run.specs.Scripts.{CauseOn, IsUnbuilt, Opens, Refuses, Script, opened_more, caller}
use Rattle.script_run.specs.Runs.{IsAnswerTo, IsLeftSo, IsTaken, IsThere, OpensAs, StandsAt}

-- ---- the call that is stored is one that the store takes

built_stored : (formats : Formats) (made : SystemCall) → ((IsBuilt made → ⊥) → ⊥) → IsBuilt (stored_system formats made)
built_stored formats (system.Create table its) now = tt
built_stored formats (system.SetStamps oldest stable) now = tt
built_stored formats (system.Evict table key) now = now (λ x. x)
built_stored formats system.RollbackToStable now = now (λ x. x)
built_stored formats system.StartCheckpoint now = now (λ x. x)
built_stored formats system.StepCheckpoint now = now (λ x. x)
built_stored formats system.FinishCheckpoint now = now (λ x. x)
built_stored formats system.Close now = now (λ x. x)

pub call-taken : (e : Engine) (formats : Formats) (made : Call) → (IsUnbuilt made → ⊥) → IsThere (caller made) e → IsTaken (stored_call formats made) e
call-taken e formats (Session session made) now there = there
call-taken e formats (System number made) now there = (there, built_stored formats made now)

pub call-fits : (e : Engine) (formats : Formats) (made : Call) → (IsUnbuilt made → ⊥) → IsThere (caller made) e → length e.systems ≡ 4 → StepFits e (Start (stored_call formats made))
call-fits e formats (Session session made) now there four = there
call-fits e formats (System number made) now there four = (subst (λ (n : ℕ). number < n) (sym four) there, built_stored formats made now)

pub actor-fits : (e : Engine) (who : Actor) → IsThere who e → length e.systems ≡ 4 → StepFits e (Go who)
actor-fits e (by.Session session) there four = there
actor-fits e (by.System number) there four = subst (λ (n : ℕ). number < n) (sym four) there

-- ---- what the store did for an actor that is there

module _ {D : Type 0} (g : Ghosts D) (first : D) (s : Script) (w : World) (store store' : Store) (disk disk' : D) (at : StandsAt g first store disk s w) where
  -- the device was read at most
  pub is-read : Looked g disk disk' → IsRead s.device (device_of g disk')
  is-read looked =
      subst (λ (d : Device). IsRead d (device_of g disk')) (sym at.device) (record { later = record { faults = looked.count; moment = looked.later }; seen = looked.content; capacity = looked.capacity })

  -- what is so by the causes that the disk gives is so by those of the script's device
  caused : (evicting : List (Option Evicting)) → s.kept.evicting ≡ evicting → (IsSo : (World → Refusal → Type 0) → Type 0) → IsSo (λ now r. IsCauseBeside evicting (Rose (g.faults disk) (g.faults disk')) (MayBeFull store.frames now) w.machine.fault r) → IsSo (CauseOn s (device_of g disk') w)
  caused evicting same IsSo is =
      subst (λ (f : Frames). IsSo (λ now r. IsCauseBeside s.kept.evicting (Rose s.device.faults (g.faults disk')) (MayBeFull f now) w.machine.fault r)) at.frames
      (subst (λ (d : Device). IsSo (λ now r. IsCauseBeside s.kept.evicting (Rose d.faults (g.faults disk')) (MayBeFull store.frames now) w.machine.fault r)) (sym at.device)
      (subst (λ (l : List (Option Evicting)). IsSo (λ now r. IsCauseBeside l (Rose (g.faults disk) (g.faults disk')) (MayBeFull store.frames now) w.machine.fault r)) (sym same) is))

  pub session-answered : (evicting : List (Option Evicting)) → s.kept.evicting ≡ evicting → (session : ℕ) (made : SessionCall) (answer : Answer (List ℕ)) → CalledBeside g first w s.first s.made store store' disk disk' evicting session (session_call_in made) answer → IsAnswerTo g first s store' disk' (Session session made) w answer
  session-answered evicting same session made answer x = record { next = x.later; answered = (x.kept, caused evicting same (λ C. IsCaused C w session (session_call_in made) x.kept) x.caused, x.called); held = x.held }

  pub stepped : (evicting : List (Option Evicting)) → s.kept.evicting ≡ evicting → (made : Step) (told : Told) (x : SteppedBeside g first w s.first s.made store store' disk disk' evicting made told) → MayStepOn (CauseOn s (device_of g disk') w) w made told x.later
  stepped evicting same made told x = caused evicting same (λ C. MayStepOn C w made told x.later) x.stepped

  pub finished : (evicting : List (Option Evicting)) → s.kept.evicting ≡ evicting → (who : Actor) (answer : Answer (List ℕ)) (x : FinishedBeside g first w s.first s.made store store' disk disk' evicting who answer) → EndsBy (CauseOn s (device_of g disk') w) w who answer x.later
  finished evicting same who answer x = caused evicting same (λ C. EndsBy C w who answer x.later) x.ended

  pub system-answered : (number : ℕ) (made : SystemCall) (answer : Answer (List ℕ)) → Made g first w s.first s.made store store' disk disk' (System number made) answer → IsAnswerTo g first s store' disk' (System number made) w answer
  system-answered number made answer x = record { next = x.later; answered = x.answered; held = x.held }

-- no leaf is kept from a call that starts
pub started : (Caused : World → Refusal → Type 0) (w : World) (made : Call) (told : Told) (next : World) → MayStepOn Caused w (Start made) told next → MayStep w (Start made) told next
started Caused w made told next (inl is) = is
started Caused w made told next (inr (session, r, go, more, caused, out)) = absurd cc

-- ---- what a line leaves

module _ {D : Type 0} (g : Ghosts D) (first : D) (s : Script) (store : Store) (disk : D) where
  -- what is so of what it leaves may be more
  pub left-more : (kept : Kept) (IsSo IsMore : Script → Type 0) → ((later : Script) → IsSo later → IsMore later) → IsLeftSo g first s store disk kept IsSo → IsLeftSo g first s store disk kept IsMore
  left-more kept IsSo IsMore more x = record { later = x.later; is = more x.later x.is; held = x.held; device = x.device; frames = x.frames; progress = x.progress; start = x.start; kept_is = x.kept_is }

  -- the actor could not be opened
  pub turned-away : (GoesSo : Script → World → Type 0) (who : Actor) (r : Refusal) (reply : Reply) → reply ≡ Answered (Refused r) → OpensAs who s.world (Err r) (λ v. StandsAt g first store disk s v)
      → IsLeftSo g first s store disk s.kept (λ later. Opens who s.world (GoesSo later) (λ but v. Refuses but s v reply later))
  turned-away GoesSo who r reply told (n, less, why, at) =
      record { later = record s { world = opened_more n s.world }; is = inr (n, r, less, why, (told, refl)); held = at.held; device = at.device; frames = at.frames; progress = at.progress; start = refl; kept_is = refl }

  -- memory was short for the call of an actor that is there
  pub short : (GoesSo : Script → Type 0) (w : World) (reply : Reply) → reply ≡ Answered (Refused NoMemory) → StandsAt g first store disk s w → IsLeftSo g first s store disk s.kept (λ later. GoesSo later ⊎ Refuses NoMemory s w reply later)
  short GoesSo w reply told at = record { later = record s { world = w }; is = inr (told, refl); held = at.held; device = at.device; frames = at.frames; progress = at.progress; start = refl; kept_is = refl }
