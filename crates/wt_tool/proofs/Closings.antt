-- What the close at the end of a command is to the definitions.
use Rattle.std.specs.Prelude.{◌≡◌, ◌||◌, ◌+◌, ℕ, Bool, false, List, [], ◌∷◌, Option, Some, None, Result, Ok, Err, if◌then◌else◌, option_map, slice_index_or}
use Rattle.std.proofs.Common.{inl, inr, refl, sym, ap, subst, ◌∙◌}
use Rattle.std.proofs.Math.ListN.{get_or-map}
use Rattle.disk_model.specs.declared.disk.Disk.{Ghosts}
use Rattle.wt_code.specs.declared.answers.Answer.{Answer}
use Rattle.wt_code.specs.declared.answers.Answer.TheVariants.{Done, Refused}
use Rattle.wt_code.specs.declared.refusals.Busy.{Busy}
use Rattle.wt_code.specs.declared.refusals.Busy.TheVariants as who
use Rattle.wt_code.specs.declared.refusals.Refusal.{Refusal}
use Rattle.wt_code.specs.declared.refusals.Refusal.TheVariants.{Corrupt, Panic, Busy as Refusal_Busy}
use Rattle.kv_model.specs.Calls.{Close, IsTaken, SystemAnswers, rolled_back}
use Rattle.kv_model.specs.Closing.{close_busy, close_decision, close_refused, closing, first_held, is_ending, is_held, last_checkpoint}
use Rattle.kv_model.specs.Content.{Content, IsLayered, OpensAs, start}
use Rattle.kv_model.specs.Decisions.{is_there}
use Rattle.kv_model.specs.Machine.{Machine, Completed, Transaction, of_some}
use Rattle.kv_model.specs.Outside.{Storing, Unfinished}
use Rattle.stored.specs.Stored.{Stored, Reads}
use Rattle.checkpoint_core.specs.Stands.{HasStill}
use Rattle.device_leaf.specs.Closings.{content_was}
use Rattle.engine_world.specs.Systems.{checkpointed}
use Rattle.engine_world.specs.Worlds.{World, Resting}
use Rattle.engine.specs.Closes.{is_under_way, unfinished_in}
use Rattle.ckpt_step.specs.declared.lives.Lone.{Lone}
use Rattle.engine_store.specs.Finishes.{IsOfTaking}
use Rattle.engine_store.specs.declared.store.Store.{Store}
use Rattle.engine_store.specs.Answers.{CloseTakes, Installs, around_at}
use Rattle.engine_store.specs.Devices.{Device, Installed, IsLater, device_of}
use Rattle.engine_store.specs.Held.{Shuts}
use Rattle.wt_tool.specs.Led.{IsQuiet}
use Rattle.wt_tool.specs.Parts.{IsLeft, NoDamage, silent_run}
use Rattle.wt_tool.specs.Points.{ClosesBeside, DidClose, Point, around, point_of}

-- ---- the content of what a device has

pub still_reads : (old : Option Stored) (c : List ℕ) → HasStill old c → Reads c (content_was old)
still_reads None c blank = inl (blank, refl)
still_reads (Some s) c on = inr (s, on, refl)

-- what was opened opens as the checkpoint that it was read from
pub start_opens : (content : Content) → IsLayered content → OpensAs content (start content).completed
start_opens content layered = record { layered = layered; oldest = refl; stable = refl; agrees = record { same_tables = refl; cores = λ t k. refl } }

-- ---- nobody is in the way of a close

abbrev nobody : Unfinished
nobody = record { eviction = None; calls = [] }

-- calls of which none is unfinished are no calls
module _ (calls : List Bool) (rest : (session : ℕ) → slice_index_or calls session false ≡ false) where
  held_same : (session : ℕ) (t : Option Transaction) → is_held calls session t ≡ is_held [] session t
  held_same session t = ap (λ (b : Bool). b || of_some false (λ (t : Transaction). is_ending t.phase) t) (rest session)

  first_same : (at : ℕ) (ts : List (Option Transaction)) → first_held calls at ts ≡ first_held [] at ts
  first_same at [] = refl
  first_same at (t ∷ ts) =
      ap (λ (b : Bool). if b then Some at else first_held calls (at + 1) ts) (held_same at t) ∙ ap (λ (o : Option ℕ). if is_held [] at t then Some at else o) (first_same (at + 1) ts)

  busy_same : (m : Machine) → close_busy m (record { eviction = None; calls = calls }) ≡ close_busy m nobody
  busy_same m = ap (λ (o : Option ℕ). if is_there m.checkpoint then Some who.Checkpoint else option_map who.Resolving o) (first_same 0 m.sessions)

quiet_busy : (w : World) → IsQuiet w → close_busy w.machine (unfinished_in w) ≡ close_busy w.machine nobody
quiet_busy w quiet = busy_same (unfinished_in w).calls (λ session. get_or-map is_under_way w.sessions session Resting ∙ ap is_under_way (quiet.sessions session)) w.machine

-- the same is decided as with the calls of the world
decided_same : (w : World) → IsQuiet w → (number : ℕ) (storing : Storing) → close_decision w.machine (unfinished_in w) number storing ≡ close_decision w.machine nobody number storing
decided_same w quiet number storing =
    ap (λ (b : Option Busy). of_some (of_some (closing w.machine (last_checkpoint number storing)) (λ busy. close_refused (Refusal_Busy busy)) b) (λ fault. close_refused (Panic fault)) w.machine.fault) (quiet_busy w quiet)

module _ (lives : List Lone) (d d' : Device) (w : World) (quiet : IsQuiet w) where
  taken_same : (number : ℕ) (storing : Storing) → IsTaken (around_at lives w d d') (rolled_back w.machine) (close_decision w.machine (unfinished_in w) number) storing → IsTaken (around lives d d') (rolled_back w.machine) (close_decision w.machine nobody number) storing
  taken_same number storing (inl takes) = inl takes
  taken_same number storing (inr same) = inr (λ other. sym (decided_same w quiet number other) ∙ same other ∙ decided_same w quiet number storing)

  answered : (answer : Answer (List ℕ)) (next : Machine) → SystemAnswers (around_at lives w d d') w.machine Close answer next → SystemAnswers (around lives d d') w.machine Close answer next
  answered answer next (inl short) = inl (record { is = short.is; up = short.up; idle = sym (quiet_busy w quiet) ∙ short.idle; left = short.left })
  answered answer next (inr (number, storing, outcome, events, is_number, takes, decides, told, leaves)) =
      inr (number, storing, outcome, events, is_number, taken_same number storing takes, sym (decided_same w quiet number storing) ∙ decides, told, leaves)

  pub close_answers : (answer : Answer (List ℕ)) (next : Machine) → CloseTakes lives d d' w answer next → SystemAnswers (around lives d d') w.machine Close answer next
  close_answers answer next (inl short) = answered answer next (inl short)
  close_answers answer next (inr is) = answered answer next is

-- ---- the close

module _ {D : Type 0} (g : Ghosts D) (start_disk : D) (first : Completed) (w : World) (s s' : Store) (before after : D) (quiet : IsQuiet w) where
  abbrev From : Point
  From = point_of g w.machine before

  abbrev To : Machine → Point
  To next = point_of g next after

  abbrev RunOf : Result (Unit {0}) Refusal → Machine → List Installed → Type 0
  RunOf result next made = ClosesBeside s.ground.lives From (silent_run result made (To next))

  did : (answer : Answer (List ℕ)) (next : Machine) → IsLater (device_of g before) (device_of g after) → CloseTakes s.ground.lives (device_of g before) (device_of g after) w answer next → DidClose s.ground.lives From answer (To next)
  did answer next later takes = record { later = later; answers = close_answers s.ground.lives (device_of g before) (device_of g after) w quiet answer next takes }

  refused_run : (r : Refusal) (next : Machine) (made : List Installed) → DidClose s.ground.lives From (Refused r) (To next) → Installs (Refused r) (checkpointed (rolled_back w.machine)).completed (device_of g after) next [] made → RunOf (Err r) next made
  refused_run r next made closes (inl none) = subst (RunOf (Err r) next) (sym none) (inr (r, To next, closes, inl refl))
  refused_run r next made closes (inr (disk, down, one)) = subst (RunOf (Err r) next) (sym one) (inr (r, To next, closes, inr (disk, down, refl)))

  pub closed_left : (result : Result (Unit {0}) Refusal) → Shuts g start_disk w first [] s s' before after result → IsLeft g start_disk first (ClosesBeside s.ground.lives) From after result
  closed_left (Ok done) x = record {
    made = x.now;
    next = x.next;
    run = subst (RunOf (Ok done) x.next) (sym x.installs) (inl (To x.next, did Done x.next x.behind.later x.takes, refl));
    opens = x.held.last;
    ever = x.held.ever;
    stays = x.held.stays;
  }
  closed_left (Err r) x = record {
    made = x.now;
    next = x.next;
    run = refused_run r x.next x.now (did (Refused r) x.next x.behind.later x.takes) x.installs;
    opens = x.held.last;
    ever = x.held.ever;
    stays = x.held.stays;
  }

-- a close tells of no damage
pub close_sound : (r : Refusal) → IsOfTaking r → NoDamage r
close_sound (Corrupt at want found) is = absurd is
close_sound _ is = tt
