-- What the finish of a checkpoint that runs leaves of what holds between two calls.
use Rattle.std.proofs.Common.{◌≡◌, ◌≢◌, ◌⊎◌, ◌∙◌, ◌≤◌, ℕ, List, [], ◌∷◌, ◌++◌, reverse, Option, Some, None, Result, Ok, Err, refl, sym, ap, subst, inl, inr, arith}
use Rattle.std.specs.Prelude.{Bool, true, false, not, nat_lt, OnErr}
use Rattle.std.proofs.lemmas.Bool.{false≢true}
use Rattle.std.proofs.lemmas.List.{reverse-reverse}
use Rattle.failure.specs.Counts.{Rose}
use Rattle.failure.specs.declared.Fault.{Fault}
use Rattle.disk_model.specs.Crash.{LeavesOnly}
use Rattle.disk_model.specs.declared.disk.Disk.{Ghosts}
use Rattle.wt_code.specs.declared.answers.Answer.{Answer}
use Rattle.wt_code.specs.declared.answers.Answer.TheVariants.{Done, Refused}
use Rattle.wt_code.specs.declared.refusals.Invalid.TheVariants as why_not
use Rattle.wt_code.specs.declared.refusals.Refusal.{Refusal}
use Rattle.wt_code.specs.declared.refusals.Refusal.TheVariants as told
use Rattle.wt_code.specs.declared.refusals.Refusal.TheVariants.{DiskFault, NoMemory, NoSpace}
use Rattle.kv_model.specs.Calls.{CkptFinish, SystemAnswers}
use Rattle.kv_model.specs.Content.{OpensAs}
use Rattle.kv_model.specs.Decisions.{Outcome, Done as IsDone, Refused as NotDone, FinishCall, checked, decision, is_there, stored_as}
use Rattle.kv_model.specs.Holds.{Member}
use Rattle.kv_model.specs.History.{Table, tables}
use Rattle.kv_model.specs.Machine.{Checkpoint, CheckpointDrop, CheckpointFinish, Completed, Event, GoDown, Machine, Nothing, after as after_event, finished, of_some}
use Rattle.kv_model.specs.Outside.{Storing, Stored as StoredWhole, NoPlace, ReadFailed, Damaged, WriteFailed}
use Rattle.kv_model.specs.Told.{Tells}
use Rattle.stored.specs.Opens.{Opens}
use Rattle.stored.specs.Stored.{Stored, IsOn, content_of}
use Rattle.checkpoint_core.specs.Finishes.{IsEither, IsOld}
use Rattle.engine_world.specs.Leaves.{TablesBegun}
use Rattle.engine_world.specs.Stands.{Engine, Stands}
use Rattle.engine_world.specs.Systems.{DownsGo, with_fault}
use Rattle.engine_world.specs.Worlds.{Records, World}
use Rattle.engine_world.proofs.HubMoves.{decided-down, decided-up}
use Rattle.engine.specs.declared.running_checkpoint.RunningCheckpoint.{RunningCheckpoint}
use Rattle.evict_step.specs.Kept.{KeepsThese, Lists}
use Rattle.ckpt_content.specs.Finished.{IsFinishOf}
use Rattle.ckpt_content.specs.Laws.{ReadFinishesOpen}
use Rattle.ckpt_step.specs.declared.lives.Lone.{Lone}
use Rattle.ckpt_step.specs.Floors.{AreLivesOn, Follows, GoesOn}
use Rattle.ckpt_step.specs.Grounds.{AreLedTo, AreRoots, StandsOn, number_of}
use Rattle.ckpt_step.specs.Moments.{IsUnderWay, Moment, cells_of, moment_of}
use Rattle.ckpt_step.specs.Rooms.{Written, known_in}
use Rattle.ckpt_step.specs.Takes.{FallenDown, Finished, Finishes, Unfinished, WhyUnfinished}
use Rattle.ckpt_step.proofs.Floors.{follows_goes, goes_same}
use Rattle.engine_store.specs.declared.progress.Underway.{Underway}
use Rattle.engine_store.specs.declared.store.Store.{Store}
use Rattle.engine_store.specs.Answers.{answer_of}
use Rattle.engine_store.specs.Devices.{ArePartedOn, Device, Installed, IsLater, device_of, may_open_to}
use Rattle.engine_store.specs.Finishes.{FinishesOn, FinishesTo, IsMomentOf, IsNoneToFinish, MayFinishAt, around_finish, ends_it}
use Rattle.engine_store.specs.Held.{IsGrounded, IsHeldIn}
use Rattle.engine_store.specs.Progress.{left_of, place_in}
use Rattle.engine_store.specs.Running.{RunsOver}
use Rattle.engine_store.proofs.Contents.{numbered}
use Rattle.engine_store.proofs.OtherRecords.{held_kept, other_records}
use Rattle.engine_store.proofs.CheckpointTaken.{done_held, gate_held, kept_held}
use Rattle.engine_store.proofs.UnderWayStill.{none_runs, runs_down, runs_ground, runs_none, runs_same}

-- ---- what is decided

-- where one runs, as the device took it
finish_decided : (m : Machine) (c : Checkpoint) (storing : Storing) → m.fault ≡ None → m.checkpoint ≡ Some c → decision m 0 (FinishCall false storing) ≡ stored_as storing (IsDone, CheckpointFinish)
finish_decided m c storing up runs =
    decided-up m 0 (FinishCall false storing) up
    ∙ ap (λ (o : Option Checkpoint). checked ((not (is_there o), told.Invalid why_not.NoCkpt) ∷ (false, told.Invalid why_not.CkptLeft) ∷ []) (stored_as storing (IsDone, CheckpointFinish))) runs

-- where none does, however it takes it
finish_none : (m : Machine) (left : Bool) (storing : Storing) → m.fault ≡ None → m.checkpoint ≡ None → decision m 0 (FinishCall left storing) ≡ (NotDone (told.Invalid why_not.NoCkpt), Nothing)
finish_none m left storing up none =
    decided-up m 0 (FinishCall left storing) up
    ∙ ap (λ (o : Option Checkpoint). checked ((not (is_there o), told.Invalid why_not.NoCkpt) ∷ (left, told.Invalid why_not.CkptLeft) ∷ []) (stored_as storing (IsDone, CheckpointFinish))) none

-- where a leaf of it is left, however it takes it
finish_left : (m : Machine) (c : Checkpoint) (storing : Storing) → m.fault ≡ None → m.checkpoint ≡ Some c → decision m 0 (FinishCall true storing) ≡ (NotDone (told.Invalid why_not.CkptLeft), Nothing)
finish_left m c storing up runs =
    decided-up m 0 (FinishCall true storing) up
    ∙ ap (λ (o : Option Checkpoint). checked ((not (is_there o), told.Invalid why_not.NoCkpt) ∷ (true, told.Invalid why_not.CkptLeft) ∷ []) (stored_as storing (IsDone, CheckpointFinish))) runs

-- ---- of leaves that were written since

none_of : (old new : List Lone) → old ≡ [] → ((x : Lone) → Member x new → Member x old) → new ≡ []
none_of old [] none among = refl
none_of old (x ∷ rest) none among = absurd (subst (λ (l : List Lone). Member x l) none (among x (inl refl)))

-- ---- one that is refused at once

module _ {D : Type 0} (g : Ghosts D) (start_disk disk : D) (s : Store) (u : World) (first : Completed) (made : List Installed) (held : IsHeldIn g start_disk s disk u first made) where
  -- whether a leaf is left
  abbrev left : Bool
  left = nat_lt 0 (left_of u.machine s.engine.hub.dir.leaves (place_in s.running))

  -- however the device takes it
  abbrev RefusedBy : Refusal → Type 0
  RefusedBy r = (storing : Storing) → decision u.machine 0 (FinishCall left storing) ≡ (NotDone r, Nothing)

  none_decided : (r : Refusal) → IsNoneToFinish s r → RefusedBy r
  none_decided r (inl (f, fell, is)) storing = subst (λ (x : Refusal). decision u.machine 0 (FinishCall left storing) ≡ (NotDone x, Nothing)) (sym is) (decided-down u.machine 0 (FinishCall left storing) f (sym held.stands.fault ∙ fell) refl)
  none_decided r (inr (up, (none, is))) storing =
      subst (λ (x : Refusal). decision u.machine 0 (FinishCall left storing) ≡ (NotDone x, Nothing)) (sym is) (finish_none u.machine left storing (sym held.stands.fault ∙ up) (runs_none s.ground s.running u.machine none held.running))

  left_decided : s.engine.hub.fault ≡ None → (v : Underway) → s.running ≡ Some v → left ≡ true → RefusedBy (told.Invalid why_not.CkptLeft)
  left_decided up v runs some storing =
      let x = subst (λ (o : Option Underway). RunsOver s.ground o u.machine) runs held.running in
      subst (λ (b : Bool). decision u.machine 0 (FinishCall b storing) ≡ (NotDone (told.Invalid why_not.CkptLeft), Nothing)) (sym some) (finish_left u.machine x.0 storing (sym held.stands.fault ∙ up) x.1.runs)

  at_once : (r : Refusal) → RefusedBy r → FinishesTo g start_disk u first made s s disk disk (Err r)
  at_once r decided = record {
    next = u.machine;
    now = made;
    behind = record { later = record { faults = omega arith; moment = omega arith }; capacity = refl; has = λ up. let on = held.on up in (on.old, on.on.stands.seen_has, on.on.stands.seen_has) };
    answers = inr (StoredWhole, inr (λ other. decided other ∙ sym (decided StoredWhole)), (NotDone r, (Nothing, decided StoredWhole, refl), refl));
    installs = inl refl;
    stays = λ some. refl;
    held = held_kept g start_disk disk s u first made held;
    none = λ none. none;
  }

  pub finishes_none : (r : Refusal) → IsNoneToFinish s r → FinishesTo g start_disk u first made s s disk disk (Err r)
  finishes_none r none = at_once r (none_decided r none)

  pub finishes_left : s.engine.hub.fault ≡ None → (v : Underway) → s.running ≡ Some v → left ≡ true → FinishesTo g start_disk u first made s s disk disk (Err (told.Invalid why_not.CkptLeft))
  finishes_left up v runs some = at_once (told.Invalid why_not.CkptLeft) (left_decided up v runs some)

-- ---- one that runs, of an engine that is up, and of which no leaf is left

module _ {D : Type 0} (g : Ghosts D) (start_disk before after : D)
    (counts : g.moment before ≤ g.moment after → (c : List ℕ) → g.may_leave after c → g.left_since after (g.moment before) c) (only : (c : List ℕ) → g.left_since after (g.moment after) c → g.may_leave after c)
    (image : g.may_leave before (g.seen before)) (s s' : Store) (u : World) (first : Completed) (made : List Installed) (held : IsHeldIn g start_disk s before u first made)
    (up : s.engine.hub.fault ≡ None) (v : Underway) (runs : s.running ≡ Some v) (all_taken : nat_lt 0 (left_of u.machine s.engine.hub.dir.leaves (place_in s.running)) ≡ false) (kept_same : s'.ground.kept ≡ s.ground.kept) (count : g.faults before ≤ g.faults after) (room : g.capacity after ≡ g.capacity before) (law : ReadFinishesOpen) (downs : DownsGo) where
  abbrev m : Machine
  m = u.machine

  abbrev r : RunningCheckpoint
  r = v.checkpoint

  -- how many leaves are left
  abbrev left_now : ℕ
  left_now = left_of m s.engine.hub.dir.leaves (place_in s.running)

  is_up : m.fault ≡ None
  is_up = sym held.stands.fault ∙ up

  grounded : IsGrounded (g.seen before) (g.may_leave before) s u (may_open_to (first ∷ []) made)
  grounded = held.on is_up

  under : (c : Checkpoint) × IsUnderWay m c r s.ground
  under = subst (λ (o : Option Underway). RunsOver s.ground o m) runs held.running

  abbrev c : Checkpoint
  c = under.0

  runs_here : m.checkpoint ≡ Some c
  runs_here = under.1.runs

  -- the moment at which it is finished
  abbrev n : Moment
  n = moment_of s.engine u c

  keeps_still : KeepsThese u s'.ground.kept
  keeps_still = subst (λ (l : Lists). KeepsThese u l) (sym kept_same) held.kept

  -- what it comes to, at each moment that is that of the engine
  abbrev Ends : Result (Unit {0}) Refusal → Type 0
  Ends result = (k : Moment) → Stands s.engine k.world → IsUnderWay k.world.machine k.checkpoint r s.ground → k.cells ≡ cells_of s.engine k.world → KeepsThese k.world s.ground.kept → (old : Option Stored) → StandsOn (g.seen before) (g.may_leave before) s.engine.hub s.ground old
      → Follows old s.engine.hub s.ground k.world → AreLivesOn (g.seen before) s.engine.hub s.ground k.world → Finishes g old k s.ground s'.ground s.engine s'.engine before after result

  here : (result : Result (Unit {0}) Refusal) → Ends result → Finishes g grounded.old n s.ground s'.ground s.engine s'.engine before after result
  here result ends = ends n held.stands under.1 refl held.kept grounded.old grounded.on grounded.follows grounded.since

  abbrev Gives : Result (Unit {0}) Refusal → Type 0
  Gives result = FinishesTo g start_disk u first made s s' before after result

  is_later : g.moment before ≤ g.moment after → IsLater (device_of g before) (device_of g after)
  is_later le = record { faults = count; moment = le }

  -- the leaves of the engine, with what it wrote, part the machine's tables
  parted : ArePartedOn (g.seen before) m s.ground.lives s.engine.hub.dir.leaves (known_in s.ground.parts)
  parted = record {
    old = grounded.old;
    has = grounded.on.stands.seen_has;
    places = s.ground.trees.items;
    roots = subst (λ (l : List Table). AreRoots l s.ground.lives s.engine.hub.dir.leaves (known_in s.ground.parts) s.ground.trees.items grounded.old) known grounded.on.roots;
    begun = subst (λ (l : List Table). TablesBegun l s.engine.hub.dir.leaves) known held.stands.begun;
    dir = s.engine.hub.dir;
    leaves_are = refl;
    since = grounded.on.since;
    led = subst (λ (l : List Table). AreLedTo l s.ground.lives s.engine.hub.dir.leaves) known grounded.on.led;
    shelf = u.shelf;
    on = grounded.since;
  }
    where
      known : s.engine.hub.tables.tables ≡ reverse (tables m.history)
      known = sym (reverse-reverse s.engine.hub.tables.tables) ∙ ap (λ (l : List Table). reverse l) held.stands.made

  -- what it finds on the device
  finds : (Room : Moment → Written → Type 0) → Room n (known_in s.ground.parts) → FinishesOn Room s.engine u s.ground.lives (g.seen before)
  finds Room has = record { moment = n; is = record { machine = refl; runs = runs_here; cells = refl }; written = known_in s.ground.parts; parted = parted; room = has }

  abbrev Takes : Storing → Type 0
  Takes storing = MayFinishAt s.engine u s.ground.lives (device_of g before) (device_of g after) storing

  -- the answer where the device took it so
  answers : (storing : Storing) (outcome : Outcome) (e : Event) (answer : Answer (List ℕ)) (next : Machine) → Takes storing → stored_as storing (IsDone, CheckpointFinish) ≡ (outcome, e) → next ≡ after_event m e → Tells outcome answer → SystemAnswers (around_finish left_now s.engine u s.ground.lives (device_of g before) (device_of g after)) m CkptFinish answer next
  answers storing outcome e answer next takes is leaves tells = inr (storing, inl takes, (outcome, (e, subst (λ (b : Bool). decision m 0 (FinishCall b storing) ≡ stored_as storing (IsDone, CheckpointFinish)) (sym all_taken) (finish_decided m c storing is_up runs_here) ∙ is, leaves), tells))

  abbrev own : Option Refusal → Installed
  own refused = record { checkpoint = (after_event m CheckpointFinish).completed; refused = refused; at = g.moment after }

  -- what is completed
  done_is : after_event m CheckpointFinish ≡ finished m c
  done_is = ap (λ (o : Option Checkpoint). of_some m (finished m) o) runs_here

  module _ (new : Stored) (is : IsFinishOf m c (number_of grounded.old) new) where
    new_opens : (bytes : List ℕ) → IsOn bytes new → OpensAs (content_of new) (after_event m CheckpointFinish).completed
    new_opens bytes on = subst (λ (k : Completed). OpensAs (content_of new) k) (sym (ap (λ (x : Machine). x.completed) done_is)) (law bytes m c (number_of grounded.old) new held.stands.valid runs_here on is)

    opens_new : (bytes : List ℕ) → IsOn bytes new → Opens bytes (after_event m CheckpointFinish).completed
    opens_new bytes on = (content_of new, inr (new, on, refl), new_opens bytes on)

  -- ---- it is finished

  ends_ok : s'.running ≡ None → Finished g grounded.old n s.ground s'.ground s.engine s'.engine before after → Gives (Ok tt)
  ends_ok none x = record {
    next = finished m c;
    now = made ++ own None ∷ [];
    behind = record { later = is_later x.leaves.later; capacity = room; has = (x.new, number_of grounded.old, numbered (g.seen before) grounded.old grounded.on.stands.seen_has, c, runs_here, x.is, x.on.stands.seen_has) };
    answers = answers StoredWhole IsDone CheckpointFinish Done (finished m c) (finds _ x.had_room) refl (sym done_is) refl;
    installs = refl;
    stays = λ some. absurd (some refl);
    held = held_kept g start_disk after s' (record u { machine = finished m c }) first (made ++ own None ∷ []) (done_held g start_disk before after counts only image s s' u first made held grounded x.new (own None) (opens_new x.new x.is) x.leaves (record u { machine = finished m c })
        x.stands keeps_still bare_now (none_runs s'.ground s'.running (finished m c) none refl) refl (sym (ap (λ (k : Machine). k.completed) done_is)) x.each
        (subst (λ (e : Engine). StandsOn (g.seen after) (g.may_leave after) e.hub s'.ground (Some x.new)) (sym x.same) x.on) (subst (λ (e : Engine). Follows (Some x.new) e.hub s'.ground (record u { machine = finished m c })) (sym x.same) x.follows)
        (subst (λ (e : Engine). AreLivesOn (g.seen after) e.hub s'.ground (record u { machine = finished m c })) (sym x.same) x.since) (new_opens x.new x.is (g.seen after) x.on.stands.seen_has));
    none = λ was. none_of s.ground.lives s'.ground.lives was (λ y among. (x.others.each y among).0);
  }
    where
      bare_now : (id : ℕ) → s'.engine.hub.dir.next ≤ id → u.shelf id ≡ []
      bare_now id late = held.bare id (subst (λ (e : Engine). e.hub.dir.next ≤ id) x.same late)

  pub finishes_ok : s'.running ≡ None → Ends (Ok tt) → Gives (Ok tt)
  finishes_ok none ends = ends_ok none (here (Ok tt) ends)

  -- ---- it is not

  module _ (lives : s'.ground.lives ≡ s.ground.lives) (number : s'.ground.number ≡ s.ground.number) (floor : s'.ground.floor ≡ s.ground.floor) where
    -- nothing changed of the engine; the machine is this one, of the same history
    still : (next : Machine) (x : Refusal) → Unfinished g grounded.old n s.ground s'.ground s.engine s'.engine before after x → Stands s'.engine (record u { machine = next }) → RunsOver s'.ground s'.running next → next.completed ≡ m.completed → GoesOn m next → (next.checkpoint ≢ None → place_in s'.running ≡ place_in s.running)
        → SystemAnswers (around_finish left_now s.engine u s.ground.lives (device_of g before) (device_of g after)) m CkptFinish (Refused x) next → Gives (Err x)
    still next x y stands running same goes stays told_so = record {
      next = next;
      now = made;
      behind = record { later = is_later y.leaves.later; capacity = room; has = λ up. (grounded.old, grounded.on.stands.seen_has, y.on.stands.seen_has) };
      answers = told_so;
      installs = inl refl;
      stays = stays;
      held = held_kept g start_disk after s' (record u { machine = next }) first made (kept_held g start_disk before after counts only image s s' u first made held grounded (record u { machine = next }) stands keeps_still
          (λ id late. held.bare id (subst (λ (e : Engine). e.hub.dir.next ≤ id) y.same late)) running same y.leaves (λ up. (
            subst (λ (e : Engine). StandsOn (g.seen after) (g.may_leave after) e.hub s'.ground grounded.old) (sym y.same) y.on,
            follows_goes grounded.old s'.engine.hub.tables.tables s'.ground.lives s'.engine.hub.dir.leaves (known_in s'.ground.parts) s'.ground.trees.items s'.ground.floor u (record u { machine = next }) goes refl (subst (λ (e : Engine). Follows grounded.old e.hub s'.ground u) (sym y.same) y.follows),
            subst (λ (e : Engine). AreLivesOn (g.seen after) e.hub s'.ground u) (sym y.same) y.since,
          )));
      none = λ was. lives ∙ was;
    }

    refused_is : (x y : Refusal) → x ≡ y → (let a : Answer (List ℕ) = Refused x in a) ≡ Refused y
    refused_is x y same = ap (λ (z : Refusal). let a : Answer (List ℕ) = Refused z in a) same

    not_down : (f : Fault) → m.fault ≡ Some f → ⊥
    not_down f fell = let e : None ≡ Some f = sym is_up ∙ fell in cc

    -- it still runs
    runs_still : s'.running ≡ s.running → RunsOver s'.ground s'.running m
    runs_still same = runs_same s'.ground s.running s'.running m same (runs_ground s.ground s'.ground s.running m number floor held.running)

    why_still : (x : Refusal) → ends_it x ≡ false → WhyUnfinished (Rose (g.faults before) (g.faults after)) (g.seen before) (g.capacity before) s.ground.lives s.engine.hub.dir.leaves (known_in s.ground.parts) n x
        → SystemAnswers (around_finish left_now s.engine u s.ground.lives (device_of g before) (device_of g after)) m CkptFinish (Refused x) m
    why_still x isnt (inl (f, fell, is)) = absurd (not_down f fell)
    why_still x isnt (inr (inl none)) = inl (refused_is x NoMemory none, refl)
    why_still x isnt (inr (inr (inl (none, full)))) = absurd (false≢true (sym isnt ∙ ap ends_it none))
    why_still x isnt (inr (inr (inr (is, rose)))) = answers ReadFailed (NotDone DiskFault) Nothing (Refused x) m rose refl refl (refused_is x DiskFault is)

    module _ (same : s'.running ≡ s.running) (x : FallenDown g grounded.old n s.ground s'.ground s.engine s'.engine before after DiskFault) where
      abbrev down : Machine
      down = after_event m (GoDown x.fault)

      there : Stands (with_fault s.engine x.fault) (record u { machine = down })
      there = downs s.engine u x.fault held.stands

      fell_stands : Stands s'.engine (record u { machine = down })
      fell_stands = subst (λ (e : Engine). Stands e (record u { machine = down })) (sym x.down) there

      fell_bare : (id : ℕ) → s'.engine.hub.dir.next ≤ id → u.shelf id ≡ []
      fell_bare id late = held.bare id (subst (λ (e : Engine). e.hub.dir.next ≤ id) x.down late)

      fell_runs : RunsOver s'.ground s'.running down
      fell_runs = runs_down s'.ground s'.running m x.fault held.stands.valid there.valid (runs_still same)

      fell_told : SystemAnswers (around_finish left_now s.engine u s.ground.lives (device_of g before) (device_of g after)) m CkptFinish (Refused DiskFault) down
      fell_told = answers (WriteFailed x.fault) (NotDone DiskFault) (GoDown x.fault) (Refused DiskFault) down x.rose refl refl refl

      not_up : down.fault ≡ None → ⊥
      not_up up = let e : Some x.fault ≡ None = up in cc

      fell_before : LeavesOnly g before after (IsOld (g.may_leave before) grounded.old) → Gives (Err DiskFault)
      fell_before left = record {
        next = down;
        now = made;
        behind = record { later = is_later left.later; capacity = room; has = λ up. absurd (not_up up) };
        answers = fell_told;
        installs = inl refl;
        stays = λ some. ap place_in same;
        held = held_kept g start_disk after s' (record u { machine = down }) first made (kept_held g start_disk before after counts only image s s' u first made held grounded (record u { machine = down }) fell_stands keeps_still fell_bare fell_runs refl left (λ up. absurd (not_up up)));
        none = λ was. lives ∙ was;
      }

      fell_at : (new : Stored) → IsFinishOf m c (number_of grounded.old) new → LeavesOnly g before after (IsEither (g.may_leave before) grounded.old new) → Gives (Err DiskFault)
      fell_at new is left = record {
        next = down;
        now = made ++ own (Some DiskFault) ∷ [];
        behind = record { later = is_later left.later; capacity = room; has = λ up. absurd (not_up up) };
        answers = fell_told;
        installs = inr (refl, (x.fault, refl), refl);
        stays = λ some. ap place_in same;
        held = held_kept g start_disk after s' (record u { machine = down }) first (made ++ own (Some DiskFault) ∷ []) (gate_held g start_disk before after counts only image s s' u first made held grounded new (own (Some DiskFault)) (opens_new new is) left (record u { machine = down })
            fell_stands keeps_still fell_bare fell_runs refl refl not_up);
        none = λ was. lives ∙ was;
      }

      fell : Gives (Err DiskFault)
      fell = elim x.leaves [
        | inl left ↦ fell_before left
        | inr (new, is, left) ↦ fell_at new is left
      ]

    -- it still runs, or the engine is down
    ends_err : (x : Refusal) → ends_it x ≡ false → s'.running ≡ s.running → Finishes g grounded.old n s.ground s'.ground s.engine s'.engine before after (Err x) → Gives (Err x)
    ends_err x isnt same (inl y) = still m x y (subst (λ (e : Engine). Stands e u) (sym y.same) held.stands) (runs_still same) refl (goes_same m) (λ some. ap place_in same) (why_still x isnt y.why)
    ends_err x isnt same (inr y) = subst (λ (z : Refusal). Gives (Err z)) (sym y.is) (fell same (subst (λ (z : Refusal). FallenDown g grounded.old n s.ground s'.ground s.engine s'.engine before after z) y.is y))

    pub finishes_err : (x : Refusal) → ends_it x ≡ false → s'.running ≡ s.running → Ends (Err x) → Gives (Err x)
    finishes_err x isnt same ends = ends_err x isnt same (here (Err x) ends)

    -- ---- there was no room, and it ends

    abbrev dropped : Machine
    dropped = after_event m CheckpointDrop

    goes_dropped : GoesOn m dropped
    goes_dropped floor x = (record { next = x.next; living = x.living }, λ table key. refl)

    why_dropped : (x : Refusal) → ends_it x ≡ true → WhyUnfinished (Rose (g.faults before) (g.faults after)) (g.seen before) (g.capacity before) s.ground.lives s.engine.hub.dir.leaves (known_in s.ground.parts) n x
        → SystemAnswers (around_finish left_now s.engine u s.ground.lives (device_of g before) (device_of g after)) m CkptFinish (Refused x) dropped
    why_dropped x is (inl (f, fell, told)) = absurd (not_down f fell)
    why_dropped x is (inr (inl short)) = absurd (false≢true (ap ends_it (sym short) ∙ is))
    why_dropped x is (inr (inr (inl (none, full)))) = answers NoPlace (NotDone NoSpace) CheckpointDrop (Refused x) dropped (finds _ full) refl refl (refused_is x NoSpace none)
    why_dropped x is (inr (inr (inr (fault, rose)))) = absurd (false≢true (ap ends_it (sym fault) ∙ is))

    ends_drop : (x : Refusal) → ends_it x ≡ true → s'.running ≡ None → ((v : World) → Stands s'.engine v → Stands s'.engine (record v { machine = after_event v.machine CheckpointDrop })) → Finishes g grounded.old n s.ground s'.ground s.engine s'.engine before after (Err x) → Gives (Err x)
    ends_drop x is none drops (inl y) = still dropped x y (drops u (subst (λ (e : Engine). Stands e u) (sym y.same) held.stands)) (none_runs s'.ground s'.running dropped none refl) refl goes_dropped (λ some. absurd (some refl)) (why_dropped x is y.why)
    ends_drop x is none drops (inr y) = absurd (false≢true (ap ends_it (sym y.is) ∙ is))

    pub finishes_drop : (x : Refusal) → ends_it x ≡ true → s'.running ≡ None → ((v : World) → Stands s'.engine v → Stands s'.engine (record v { machine = after_event v.machine CheckpointDrop })) → Ends (Err x) → Gives (Err x)
    finishes_drop x is none drops ends = ends_drop x is none drops (here (Err x) ends)

-- ---- in a world with another history

finds_as : (Room : Moment → Written → Type 0) (e : Engine) (w : World) (q : Records) (lives : List Lone) (bytes : List ℕ) → FinishesOn Room e (other_records q w) lives bytes → FinishesOn Room e w lives bytes
finds_as Room e w q lives bytes x = record { moment = x.moment; is = record { machine = x.is.machine; runs = x.is.runs; cells = x.is.cells }; written = x.written; parted = x.parted; room = x.room }

takes_as : (e : Engine) (w : World) (q : Records) (lives : List Lone) (old new : Device) (storing : Storing) → MayFinishAt e (other_records q w) lives old new storing → MayFinishAt e w lives old new storing
takes_as e w q lives old new StoredWhole x = finds_as _ e w q lives old.seen x
takes_as e w q lives old new NoPlace x = finds_as _ e w q lives old.seen x
takes_as e w q lives old new ReadFailed x = x
takes_as e w q lives old new (Damaged offset want found) x = x
takes_as e w q lives old new (WriteFailed fault) x = x

answers_as : (left : ℕ) (e : Engine) (w : World) (q : Records) (lives : List Lone) (old new : Device) (m : Machine) (answer : Answer (List ℕ)) (next : Machine) → SystemAnswers (around_finish left e (other_records q w) lives old new) m CkptFinish answer next
    → SystemAnswers (around_finish left e w lives old new) m CkptFinish answer next
answers_as leaves e w q lives old new m answer next (inl short) = inl short
answers_as leaves e w q lives old new m answer next (inr (storing, inl takes, judged)) = inr (storing, inl (takes_as e w q lives old new storing takes), judged)
answers_as leaves e w q lives old new m answer next (inr (storing, inr same, judged)) = inr (storing, inr same, judged)

pub finishes_as : {D : Type 0} (g : Ghosts D) (start_disk : D) (w : World) (q : Records) (first : Completed) (made : List Installed) (s s' : Store) (before after : D) (result : Result (Unit {0}) Refusal) → FinishesTo g start_disk (other_records q w) first made s s' before after result → FinishesTo g start_disk w first made s s' before after result
finishes_as g start_disk w q first made s s' before after result x = record {
  next = x.next;
  now = x.now;
  behind = x.behind;
  answers = answers_as (left_of w.machine s.engine.hub.dir.leaves (place_in s.running)) s.engine w q s.ground.lives (device_of g before) (device_of g after) w.machine (answer_of result) x.next x.answers;
  installs = x.installs;
  stays = x.stays;
  held = x.held;
  none = x.none;
}
