-- A checkpoint that may not be taken now, since the engine is down or one runs; and one that starts.
use Rattle.std.proofs.Common.{◌≡◌, ◌⊎◌, ◌∙◌, ℕ, List, [], ◌∷◌, Option, Some, None, Result, Ok, Err, refl, sym, ap, subst, inl, inr, arith}
use Rattle.std.specs.Prelude.{nat_le, true}
use Rattle.limits.specs.declared.TheConstants.{NUMBER_MAX}
use Rattle.failure.specs.declared.Fault.{Fault}
use Rattle.disk_model.specs.declared.disk.Disk.{Ghosts}
use Rattle.wt_code.specs.declared.answers.Answer.{Answer}
use Rattle.wt_code.specs.declared.answers.Answer.TheVariants.{Refused}
use Rattle.wt_code.specs.declared.refusals.Busy.TheVariants as who
use Rattle.wt_code.specs.declared.refusals.Refusal.{Refusal}
use Rattle.wt_code.specs.declared.refusals.Refusal.TheVariants as told
use Rattle.wt_code.specs.declared.refusals.Limit.TheVariants as counted
use Rattle.kv_model.specs.Decisions.{Done as IsDone, Refused as NotDone, StartCall, checked, first_session, is_resolving, is_there, unless_found}
use Rattle.kv_model.specs.Machine.{Checkpoint, CheckpointStart, Completed, Machine, Nothing, after as after_event}
use Rattle.engine_world.specs.Stands.{Stands}
use Rattle.engine_world.specs.Worlds.{Records, World}
use Rattle.engine_world.proofs.HubMoves.{decided-down, decided-up}
use Rattle.engine.specs.Checkpoints.{MayStart}
use Rattle.engine.specs.Closes.{busy_in, close_told}
use Rattle.ckpt_step.specs.Floors.{GoesOn, Respects}
use Rattle.ckpt_step.specs.Rooms.{known_in}
use Rattle.ckpt_step.proofs.Floors.{follows_goes}
use Rattle.ckpt_step.specs.Moments.{IsUnderWay}
use Rattle.ckpt_step.specs.Takes.{IsBarred, Starts, begun}
use Rattle.engine_store.specs.declared.progress.Progress.{Progress}
use Rattle.engine_store.specs.declared.progress.Underway.{Underway}
use Rattle.engine_store.specs.declared.store.Store.{Store}
use Rattle.engine_store.specs.Devices.{Installed, IsNumberOf, may_open_to}
use Rattle.engine_store.specs.Finishes.{IsBarredNow, StartsTo}
use Rattle.engine_store.specs.Held.{Checkpoints, IsGrounded, IsHeldIn}
use Rattle.engine_store.specs.Progress.{first_place}
use Rattle.engine_store.specs.Running.{RunsOver}
use Rattle.engine_store.proofs.Contents.{numbered}
use Rattle.engine_store.proofs.OtherRecords.{held_kept, other_records}
use Rattle.engine_store.proofs.CheckpointTaken.{number_held}

-- no other one starts
busy_start : (m : Machine) (c : Checkpoint) (n : ℕ) → m.fault ≡ None → m.checkpoint ≡ Some c → MayStart m n (Err (told.Busy who.Checkpoint))
busy_start m c n up runs =
    decided-up m 0 (StartCall n) up
    ∙ ap (λ (o : Option Checkpoint). checked ((is_there o, told.Busy who.Checkpoint) ∷ []) (unless_found (first_session (λ t. is_resolving t.phase) 0 m.sessions) who.Resolving (checked ((nat_le NUMBER_MAX n, told.Limit counted.Checkpoints) ∷ []) (IsDone, CheckpointStart)))) runs

-- who is in the way of a close
busy_close : (w : World) (c : Checkpoint) → w.machine.fault ≡ None → w.machine.checkpoint ≡ Some c → close_told w.machine.fault (busy_in w) ≡ Err (told.Busy who.Checkpoint)
busy_close w c up runs = let there : is_there w.machine.checkpoint ≡ true = ap is_there runs in ap (λ (f : Option Fault). close_told f (busy_in w)) up ∙ rw there refl

-- of one that the store has not
pub barred_told : (s : Store) (w : World) (r : Refusal) → Stands s.engine w → s.running ≡ None → IsBarredNow s r → close_told w.machine.fault (busy_in w) ≡ Err r
barred_told s w r stands idle (inl (f, fell, is)) = ap (λ (o : Option Fault). close_told o (busy_in w)) (sym stands.fault ∙ fell) ∙ ap (λ (x : Refusal). let e : Result (Unit {0}) Refusal = Err x in e) (sym is)
barred_told s w r stands idle (inr (up, (x, runs, is))) = absurd (let e : None ≡ Some x = sym idle ∙ runs in cc)

module _ {D : Type 0} (g : Ghosts D) (start_disk disk : D) (image : g.may_leave disk (g.seen disk)) (s : Store) (w : World) (first : Completed) (made : List Installed) (held : IsHeldIn g start_disk s disk w first made) where
  -- the one that runs
  runs_now : (x : Underway) → s.running ≡ Some x → (c : Checkpoint) × IsUnderWay w.machine c x.checkpoint s.ground
  runs_now x is = subst (λ (o : Option Underway). RunsOver s.ground o w.machine) is held.running

  barred_start : (r : Refusal) → IsBarredNow s r → (n : ℕ) → MayStart w.machine n (Err r)
  barred_start r (inl (f, fell, is)) n = subst (λ (x : Refusal). MayStart w.machine n (Err x)) (sym is) (decided-down w.machine 0 (StartCall n) f (sym held.stands.fault ∙ fell) refl)
  barred_start r (inr (up, (x, runs, is))) n = let c = runs_now x runs in subst (λ (y : Refusal). MayStart w.machine n (Err y)) (sym is) (busy_start w.machine c.0 n (sym held.stands.fault ∙ up) c.1.runs)

  pub barred_close : (r : Refusal) → IsBarredNow s r → close_told w.machine.fault (busy_in w) ≡ Err r
  barred_close r (inl (f, fell, is)) = ap (λ (o : Option Fault). close_told o (busy_in w)) (sym held.stands.fault ∙ fell) ∙ ap (λ (x : Refusal). let e : Result (Unit {0}) Refusal = Err x in e) (sym is)
  barred_close r (inr (up, (x, runs, is))) = let c = runs_now x runs in busy_close w c.0 (sym held.stands.fault ∙ up) c.1.runs ∙ ap (λ (y : Refusal). let e : Result (Unit {0}) Refusal = Err y in e) (sym is)

  -- the number of the last checkpoint that was done
  numbered_now : (n : ℕ) × IsNumberOf (g.seen disk) n
  numbered_now = number_held g start_disk disk image s w first made held

  -- nothing is changed
  pub checkpoints_barred : (r : Refusal) → IsBarredNow s r → Checkpoints g start_disk w first made s s disk disk (Err r)
  checkpoints_barred r barred = (
    w.shelf,
    record {
      next = w.machine;
      now = made;
      behind = record { later = record { faults = omega arith; moment = omega arith }; capacity = refl; has = λ up. let on = held.on up in (on.old, on.on.stands.seen_has, on.on.stands.seen_has) };
      takes = inr (numbered_now.0, Err r, numbered_now.1, barred_start r barred numbered_now.0, (refl, refl));
      installs = inl refl;
      held = held_kept g start_disk disk s w first made held;
      none = λ none. none;
    },
  )

  -- ---- the start of one

  abbrev StartsHere : Store → Result (Unit {0}) Refusal → Type 0
  StartsHere s' result = StartsTo g start_disk w first made s s' disk disk result

  starts_not : (r : Refusal) (n : ℕ) → IsNumberOf (g.seen disk) n → MayStart w.machine n (Err r) → StartsHere s (Err r)
  starts_not r n at barred = record { next = w.machine; begins = tt; answers = inr (n, at, (NotDone r, (Nothing, barred, refl), refl)); held = held_kept g start_disk disk s w first made held }

  pub starts_barred : (r : Refusal) → IsBarredNow s r → StartsHere s (Err r)
  starts_barred r barred = starts_not r numbered_now.0 numbered_now.1 (barred_start r barred numbered_now.0)

  module _ (up : s.engine.hub.fault ≡ None) where
    on : IsGrounded (g.seen disk) (g.may_leave disk) s w (may_open_to (first ∷ []) made)
    on = held.on (sym held.stands.fault ∙ up)

    at_ground : IsNumberOf (g.seen disk) s.ground.number
    at_ground = subst (λ (n : ℕ). IsNumberOf (g.seen disk) n) (sym on.on.number) (numbered (g.seen disk) on.old on.on.stands.seen_has)

    -- it does not start
    pub starts_err : (r : Refusal) → IsBarred w.machine s.ground.number r ⊎ (r ≡ told.NoMemory) → StartsHere s (Err r)
    starts_err r (inl barred) = starts_not r s.ground.number at_ground barred
    starts_err r (inr short) = record { next = w.machine; begins = tt; answers = inl (ap (λ (x : Refusal). let a : Answer (List ℕ) = Refused x in a) short, refl); held = held_kept g start_disk disk s w first made held }

    -- it starts
    pub starts_ok : (u : Underway) → u.progress ≡ first_place → (Respects w.machine s.ground.floor → Starts s.engine s.ground w u.checkpoint) → StartsHere (record s { running = Some u }) (Ok tt)
    starts_ok u at_first starts =
        let x = starts on.follows.respects in
        let next : World = record w { machine = after_event w.machine CheckpointStart } in
        record {
          next = after_event w.machine CheckpointStart;
          begins = ap (λ (p : Progress). let o : Option Progress = Some p in o) at_first;
          answers = inr (s.ground.number, at_ground, (IsDone, (CheckpointStart, x.may, refl), refl));
          held = held_kept g start_disk disk (record s { running = Some u }) next first made (record {
            stands = x.stands;
            running = (begun w.machine, x.under_way);
            kept = held.kept;
            bare = held.bare;
            on = λ up. record {
              old = on.old;
              on = on.on;
              follows = follows_goes on.old s.engine.hub.tables.tables s.ground.lives s.engine.hub.dir.leaves (known_in s.ground.parts) s.ground.trees.items s.ground.floor w next goes_begun refl on.follows;
              since = on.since;
              opens = on.opens;
              one = on.one;
            };
            images = held.images;
            last = held.last;
            ever = held.ever;
            stays = held.stays;
            past = held.past;
          });
        }
      where
        goes_begun : GoesOn w.machine (after_event w.machine CheckpointStart)
        goes_begun floor x = (record { next = x.next; living = x.living }, λ table key. refl)

-- in a world with another history
pub starts_as : {D : Type 0} (g : Ghosts D) (start_disk : D) (w : World) (q : Records) (first : Completed) (made : List Installed) (s s' : Store) (before after : D) (result : Result (Unit {0}) Refusal) → StartsTo g start_disk (other_records q w) first made s s' before after result → StartsTo g start_disk w first made s s' before after result
starts_as g start_disk w q first made s s' before after result x = record { next = x.next; begins = x.begins; answers = x.answers; held = x.held }
