-- What the writing out of leaves leaves of what holds between two calls.
use Rattle.std.proofs.Common.{◌≡◌, ◌≤◌, ◌∙◌, ℕ, List, [], ◌∷◌, Bool, true, false, Option, Some, None, Result, Ok, Err, Vec, Global, length, refl, sym, ap, subst, inl, inr, arith}
use Rattle.std.specs.Prelude.{IfErr}
use Rattle.std.proofs.lemmas.Bool.{false≢true}
use Rattle.failure.specs.Counts.{Rose}
use Rattle.failure.specs.declared.Fault.{Fault}
use Rattle.disk_model.specs.Crash.{LeavesOnly, SameDisk}
use Rattle.disk_model.specs.declared.disk.Disk.{Ghosts}
use Rattle.wt_code.specs.declared.refusals.Refusal.{Refusal}
use Rattle.wt_code.specs.declared.refusals.Refusal.TheVariants.{DiskFault, NoMemory, NoSpace, Panic}
use Rattle.catalog.specs.Known.{Known}
use Rattle.txn_table.specs.Tabled.{Table as Txns}
use Rattle.tree_open.specs.declared.place.TreePlace.{TreePlace}
use Rattle.kv_model.specs.Decisions.{Outcome, Refused as NotDone, StartCall}
use Rattle.kv_model.specs.Machine.{Completed, Event, GoDown, Machine, after as after_event}
use Rattle.row_page.specs.Rows.{Row}
use Rattle.stored.specs.Stored.{Stored}
use Rattle.stored.proofs.Device.{one_stored}
use Rattle.turtle.proofs.Choice.{chooses_one}
use Rattle.checkpoint_core.specs.Finishes.{IsOld}
use Rattle.checkpoint_core.specs.Stands.{HasStill}
use Rattle.engine_world.specs.Stands.{Engine, Stands}
use Rattle.engine_world.specs.Systems.{DownsGo}
use Rattle.engine_world.specs.Worlds.{World}
use Rattle.engine_world.proofs.HubMoves.{decided-down}
use Rattle.engine.specs.Checkpoints.{MayStart, started_as}
use Rattle.evict_step.specs.Kept.{KeepsThese, Lists}
use Rattle.ckpt_step.specs.Floors.{AreLivesOn, Follows}
use Rattle.ckpt_step.specs.Grounds.{StandsOn, number_of}
use Rattle.ckpt_step.specs.Trees.{AreLow}
use Rattle.ckpt_step.specs.WritesOut.{FallenOut, LeavesEngine, NotWritten, WhyNotOut, WritesOut as LeafWritesOut, WrittenOut}
use Rattle.engine_store.specs.declared.store.Store.{Store}
use Rattle.engine_store.specs.Devices.{Installed, IsLater, IsNumberOf, KeepsCheckpoint, device_of, may_open_to}
use Rattle.engine_store.specs.Held.{IsGrounded, IsHeld, IsHeldIn}
use Rattle.engine_store.specs.Opened.{IsReady}
use Rattle.engine_store.specs.Relieves.{StaysAlike}
use Rattle.engine_store.specs.WritesOut.{WhyNoMore, WritesAlike, WritesFrom, WritesOut, WroteDown, WroteOn, WroteUp, is_short}
use Rattle.engine_store.specs.Running.{RunsOver}
use Rattle.engine_store.proofs.Contents.{numbered, one_number}
use Rattle.engine_store.proofs.CutShelves.{cut, cut_past, follows_cut, kept_cut, on_cut, stands_cut}
use Rattle.engine_store.proofs.OtherRecords.{held_kept}
use Rattle.engine_store.proofs.CheckpointTaken.{clock_held, kept_held, same_store}
use Rattle.engine_store.proofs.UnderWayStill.{none_runs, runs_none}

-- ---- a device has one checkpoint, or none

pub same_still : (bytes : List ℕ) (s t : Option Stored) → HasStill s bytes → HasStill t bytes → s ≡ t
same_still bytes None None one other = refl
same_still bytes None (Some t) blank on = let e : None ≡ Some t.slot = chooses_one bytes None (Some t.slot) blank.shut on.chosen in absurd (cc)
same_still bytes (Some s) None on blank = let e : None ≡ Some s.slot = chooses_one bytes None (Some s.slot) blank.shut on.chosen in absurd (cc)
same_still bytes (Some s) (Some t) one other = ap (λ (x : Stored). Some x) (one_stored bytes s t one other)

pub still_later : (before after : List ℕ) (old : Option Stored) → HasStill old before → HasStill old after → (s : Option Stored) → HasStill s before → HasStill s after
still_later before after old was now s has = subst (λ (o : Option Stored). HasStill o after) (same_still before old s was has) now

-- ---- a leaf

-- where memory or room was short, it was not another refusal
not_short : (r : Refusal) → is_short r ≡ false → (x : Refusal) → is_short x ≡ true → r ≡ x → ⊥
not_short r isnt x is same = false≢true (sym isnt ∙ (ap is_short same ∙ is))

same_error : (a b : Refusal) → (let x : Result Bool Refusal = Err a in x) ≡ (let x : Result Bool Refusal = Err b in x) → a ≡ b
same_error a b e = cc

-- of a machine that is down no checkpoint starts
barred_down : (m : Machine) (number : ℕ) (fault : Fault) (r : Refusal) → m.fault ≡ Some fault → MayStart m number (Err r) → r ≡ Panic fault
barred_down m number fault r fell barred = same_refusal (sym barred ∙ decided-down m 0 (StartCall number) fault fell refl)
  where
    same_refusal : started_as (Err r) ≡ started_as (Err (Panic fault)) → r ≡ Panic fault
    same_refusal e = let f : NotDone r ≡ NotDone (Panic fault) = ap (λ (d : Outcome × Event). d.0) e in cc

module _ {D : Type 0} (g : Ghosts D) (start_disk before after : D)
    (counts : g.moment before ≤ g.moment after → (c : List ℕ) → g.may_leave after c → g.left_since after (g.moment before) c) (only : (c : List ℕ) → g.left_since after (g.moment after) c → g.may_leave after c)
    (image : g.may_leave before (g.seen before)) (s s' : Store) (w : World) (first : Completed) (made : List Installed) (held : IsHeldIn g start_disk s before w first made)
    (disk : SameDisk g before after) (downs : DownsGo) (free : s.running ≡ None) (none : s'.running ≡ None) (kept : s'.ground.kept ≡ s.ground.kept) where
  -- what is kept is what it was
  keeps_still : KeepsThese w s'.ground.kept
  keeps_still = subst (λ (l : Lists). KeepsThese w l) (sym kept) held.kept

  -- none runs, then either
  idle : w.machine.checkpoint ≡ None
  idle = runs_none s.ground s.running w.machine free held.running

  idle_still : (n : Machine) → n.checkpoint ≡ None → RunsOver s'.ground s'.running n
  idle_still n is = none_runs s'.ground s'.running n none is

  abbrev Wrote : Result (Unit {0}) Refusal → Type 0
  Wrote result = WritesOut g start_disk w first made s s' before after result

  -- ---- of an engine that is up

  module _ (grounded : IsGrounded (g.seen before) (g.may_leave before) s w (may_open_to (first ∷ []) made)) where
    abbrev Kept : Type 0
    Kept = LeavesOnly g before after (IsOld (g.may_leave before) grounded.old)

    is_later : Kept → IsLater (device_of g before) (device_of g after)
    is_later left = record { faults = disk.later; moment = left.later }

    keeps : HasStill grounded.old (g.seen after) → KeepsCheckpoint (device_of g before) (device_of g after)
    keeps now = record { capacity = disk.room; checkpoint = still_later (g.seen before) (g.seen after) grounded.old grounded.on.stands.seen_has now }

    -- with this on the shelf
    went : (shelf : ℕ → List Row) → Kept → Stands s'.engine (record w { shelf = shelf }) → KeepsThese (record w { shelf = shelf }) s'.ground.kept → ((id : ℕ) → s'.engine.hub.dir.next ≤ id → shelf id ≡ []) → StandsOn (g.seen after) (g.may_leave after) s'.engine.hub s'.ground grounded.old → Follows grounded.old s'.engine.hub s'.ground (record w { shelf = shelf })
        → AreLivesOn (g.seen after) s'.engine.hub s'.ground (record w { shelf = shelf }) → WroteUp g start_disk w first made s s' before after
    went shelf left stands keeps_these bare on follows since = record {
      shelf = shelf;
      wrote = record {
        later = is_later left;
        capacity = disk.room;
        held = held_kept g start_disk after s' (record w { shelf = shelf }) first made (kept_held g start_disk before after counts only image s s' w first made held grounded (record w { shelf = shelf }) stands keeps_these bare (idle_still w.machine idle) refl left (λ up. (on, follows, since)));
      };
      keeps = keeps on.stands.seen_has;
    }

    -- the leaf gave way
    gave : (id : ℕ) → WrittenOut g grounded.old w s.ground s'.ground s.engine s'.engine id before after → WroteUp g start_disk w first made s s' before after
    gave id x =
        let v : World = record w { shelf = x.still.shelf } in
        let n = s'.engine.hub.dir.next in
        let keeps_these = subst (λ (l : Lists). KeepsThese (record w { shelf = cut n x.still.shelf }) l) (sym kept) (kept_cut s.engine w s.ground.kept held.stands held.kept held.bare x.still.shelf n x.ids x.still.shelved.others) in
        went (cut n x.still.shelf) x.left (stands_cut s'.engine v x.stands) keeps_these (λ other late. cut_past n x.still.shelf other late)
        x.still.on (follows_cut grounded.old s'.engine.hub s'.ground v x.stands.dir x.still.follows) (on_cut (g.seen after) s'.engine.hub s'.ground v x.stands.dir x.still.since)

    -- it stays
    stays : (id : ℕ) → NotWritten g grounded.old w s.ground s'.ground s.engine s'.engine id before after → WroteUp g start_disk w first made s s' before after
    stays id n =
        went w.shelf n.left (subst (λ (e : Engine). Stands e w) (sym n.same) held.stands) keeps_still (λ other late. held.bare other (subst (λ (e : Engine). e.hub.dir.next ≤ other) n.same late)) (subst (λ (e : Engine). StandsOn (g.seen after) (g.may_leave after) e.hub s'.ground grounded.old) (sym n.same) n.on)
        (subst (λ (e : Engine). Follows grounded.old e.hub s'.ground w) (sym n.same) n.follows) (subst (λ (e : Engine). AreLivesOn (g.seen after) e.hub s'.ground w) (sym n.same) n.since)

    -- a write failed
    fell : (id : ℕ) (r : Refusal) → FallenOut g grounded.old w s.ground s'.ground s.engine s'.engine id before after r → WroteDown g start_disk w first made s s' before after r
    fell id r f = record {
      is = f.is;
      rose = f.rose;
      fault = f.fault;
      shelf = w.shelf;
      wrote = record {
        later = is_later f.left;
        capacity = disk.room;
        held = held_kept g start_disk after s' (record w { machine = after_event w.machine (GoDown f.fault) }) first made (kept_held g start_disk before after counts only image s s' w first made held grounded (record w { machine = after_event w.machine (GoDown f.fault) })
            (subst (λ (e : Engine). Stands e (record w { machine = after_event w.machine (GoDown f.fault) })) (sym f.down) (downs s.engine w f.fault held.stands)) keeps_still (λ other late. held.bare other (subst (λ (e : Engine). e.hub.dir.next ≤ other) f.down late)) (idle_still (after_event w.machine (GoDown f.fault)) idle) refl f.left (λ up. absurd (not_up f.fault up)));
      };
    }
      where
        not_up : (fault : Fault) → (after_event w.machine (GoDown fault)).fault ≡ None → ⊥
        not_up fault up = let e : Some fault ≡ None = up in cc

    up_ok : (id : ℕ) (b : Bool) → LeafWritesOut g grounded.old w s.ground s'.ground s.engine s'.engine id before after (Ok b) → WroteUp g start_disk w first made s s' before after
    up_ok id true x = gave id x
    up_ok id false (n, why) = stays id n

    up_short : (id : ℕ) (r : Refusal) → is_short r ≡ true → LeafWritesOut g grounded.old w s.ground s'.ground s.engine s'.engine id before after (Err r) → WroteUp g start_disk w first made s s' before after
    up_short id r short (inl (n, why)) = stays id n
    up_short id r short (inr f) = absurd (false≢true (ap is_short (sym f.is) ∙ short))

    up_err : (id : ℕ) (r : Refusal) → is_short r ≡ false → LeafWritesOut g grounded.old w s.ground s'.ground s.engine s'.engine id before after (Err r) → Wrote (Err r)
    up_err id r isnt (inl (n, why)) = inl (stays id n, by why)
      where
        by : WhyNotOut (Rose (g.faults before) (g.faults after)) (g.seen before) (g.capacity before) s.ground.lives w.machine s.engine.hub.dir.leaves (number_of grounded.old) id r → WhyNoMore g start_disk w first made s s' before after r
        by (inl barred) = inr (inl (number_of grounded.old, numbered (g.seen before) grounded.old grounded.on.stands.seen_has, barred))
        by (inr (inl none)) = absurd (not_short r isnt NoMemory refl none)
        by (inr (inr (inl (none, full)))) = absurd (not_short r isnt NoSpace refl none)
        by (inr (inr (inr (is, rose)))) = inr (inr (is, rose))
    up_err id r isnt (inr f) = inr (fell id r f)

  -- ---- of either

  module _ (id : ℕ) (result : Result Bool Refusal)
      (writes : (old : Option Stored) → StandsOn (g.seen before) (g.may_leave before) s.engine.hub s.ground old → Follows old s.engine.hub s.ground w → AreLivesOn (g.seen before) s.engine.hub s.ground w → LeafWritesOut g old w s.ground s'.ground s.engine s'.engine id before after result)
      (down : (fault : Fault) → s.engine.hub.fault ≡ Some fault → (result ≡ Err (Panic fault)) × (s'.engine ≡ s.engine) × (s'.ground ≡ s.ground) × (after ≡ before)) where
    -- it was down: nothing is changed
    same_down : s'.engine ≡ s.engine → s'.ground ≡ s.ground → after ≡ before → WroteUp g start_disk w first made s s' before after
    same_down engine ground still =
        subst (λ (d : D). WroteUp g start_disk w first made s s' before d) (sym still)
        (subst (λ (x : Store). WroteUp g start_disk w first made s x before before) (sym (same_store s s' engine ground (none ∙ sym free)))
        (record {
          shelf = w.shelf;
          wrote = record { later = record { faults = omega arith; moment = omega arith }; capacity = refl; held = held_kept g start_disk before (record s { frames = s'.frames; clock = s'.clock }) w first made (clock_held g start_disk before image s w first made held s'.frames s'.clock) };
          keeps = record { capacity = refl; checkpoint = λ o has. has };
        }))

    here : (up : w.machine.fault ≡ None) → let on = held.on up in LeafWritesOut g on.old w s.ground s'.ground s.engine s'.engine id before after result
    here up = let on = held.on up in writes on.old on.on on.follows on.since

    pub leaf_ok : (b : Bool) → result ≡ Ok b → WroteUp g start_disk w first made s s' before after
    leaf_ok b is = by w.machine.fault refl
      where
        by : (f : Option Fault) → w.machine.fault ≡ f → WroteUp g start_disk w first made s s' before after
        by None up = up_ok (held.on up) id b (subst (λ (r : Result Bool Refusal). LeafWritesOut g (held.on up).old w s.ground s'.ground s.engine s'.engine id before after r) is (here up))
        by (Some fault) went_down = let e : Ok b ≡ Err (Panic fault) = sym is ∙ (down fault (held.stands.fault ∙ went_down)).0 in absurd (cc)

    pub leaf_short : (r : Refusal) → result ≡ Err r → is_short r ≡ true → WroteUp g start_disk w first made s s' before after
    leaf_short r is short = by w.machine.fault refl
      where
        by : (f : Option Fault) → w.machine.fault ≡ f → WroteUp g start_disk w first made s s' before after
        by None up = up_short (held.on up) id r short (subst (λ (x : Result Bool Refusal). LeafWritesOut g (held.on up).old w s.ground s'.ground s.engine s'.engine id before after x) is (here up))
        by (Some fault) went_down = let t = down fault (held.stands.fault ∙ went_down) in same_down t.1 t.2 t.3

    pub leaf_err : (r : Refusal) → result ≡ Err r → is_short r ≡ false → Wrote (Err r)
    leaf_err r is isnt = by w.machine.fault refl
      where
        by : (f : Option Fault) → w.machine.fault ≡ f → Wrote (Err r)
        by None up = up_err (held.on up) id r isnt (subst (λ (x : Result Bool Refusal). LeafWritesOut g (held.on up).old w s.ground s'.ground s.engine s'.engine id before after x) is (here up))
        by (Some fault) went_down =
            let t = down fault (held.stands.fault ∙ went_down) in
            inl (same_down t.1 t.2 t.3, inl (fault, same_error r (Panic fault) (sym is ∙ t.0), went_down))

-- ---- whatever the disk

module _ (s s' : Store) (running : s'.running ≡ s.running) (frames : s'.frames ≡ s.frames) (number : s'.ground.number ≡ s.ground.number) (trees : s'.ground.trees ≡ s.ground.trees) where
  pub leaf_alike : (id : ℕ) (result : Result Bool Refusal) → (s'.engine.hub.tables ≡ s.engine.hub.tables) × (s'.engine.hub.txns ≡ s.engine.hub.txns) → LeavesEngine s.engine s'.engine id result → StaysAlike s s'
  leaf_alike id result hub leaves = record { running = running; frames = frames; sessions = by result leaves; tables = hub.0; txns = hub.1; number = number; trees = trees }
    where
      by : (r : Result Bool Refusal) → LeavesEngine s.engine s'.engine id r → s'.engine.sessions ≡ s.engine.sessions
      by (Ok true) (entries, way) = ap (λ (e : Engine). e.sessions) way.is
      by (Ok false) same = ap (λ (e : Engine). e.sessions) same
      by (Err r) (inl same) = ap (λ (e : Engine). e.sessions) same
      by (Err r) (inr (fault, is)) = ap (λ (e : Engine). e.sessions) is

-- another checkpoint may follow as before
pub ready_alike : (s s' : Store) → StaysAlike s s' → IsReady s → IsReady s'
ready_alike s s' alike ready = record {
  run = omega (arith, ap (λ (t : Txns). t.run) alike.txns, alike.number, ready.run);
  trees = omega (arith, ap (λ (v : Vec TreePlace Global). length v.items) alike.trees, ap (λ (k : Known). length k.tables) alike.tables, ready.trees);
  low = subst (λ (v : Vec TreePlace Global). AreLow v.items) (sym alike.trees) ready.low;
}

-- ---- one after the other

module _ {D : Type 0} (g : Ghosts D) where
  pub none_wrote : (s : Store) (disk : D) → WritesFrom g s s disk disk (Ok tt)
  none_wrote s disk honest start w first made held = record {
    shelf = w.shelf;
    wrote = record { later = record { faults = omega arith; moment = omega arith }; capacity = refl; held = held };
    keeps = record { capacity = refl; checkpoint = λ o has. has };
  }

  pub none_alike : (s : Store) (disk : D) → WritesAlike g s s disk disk (Ok tt)
  none_alike s disk = record {
    alike = record { running = refl; frames = refl; sessions = refl; tables = refl; txns = refl; number = refl; trees = refl };
    fault = tt;
    disk = record { same = refl; room = refl; home = refl; later = omega arith };
  }

  module _ (a b c : Store) (before mid after : D) where
    pub alike_then : StaysAlike a b → StaysAlike b c → StaysAlike a c
    alike_then one two = record {
      running = two.running ∙ one.running;
      frames = two.frames ∙ one.frames;
      sessions = two.sessions ∙ one.sessions;
      tables = two.tables ∙ one.tables;
      txns = two.txns ∙ one.txns;
      number = two.number ∙ one.number;
      trees = two.trees ∙ one.trees;
    }

    pub then_alike : (result : Result (Unit {0}) Refusal) → WritesAlike g a b before mid (Ok tt) → WritesAlike g b c mid after result → WritesAlike g a c before after result
    then_alike result one two = record {
      alike = alike_then one.alike two.alike;
      fault = by result two.fault;
      disk = record { same = two.disk.same ∙ one.disk.same; room = two.disk.room ∙ one.disk.room; home = two.disk.home ∙ one.disk.home; later = omega (arith, one.disk.later, two.disk.later) };
    }
      where
        by : (r : Result (Unit {0}) Refusal) → IfErr r (λ x. x ≡ DiskFault → Rose (g.faults mid) (g.faults after)) → IfErr r (λ x. x ≡ DiskFault → Rose (g.faults before) (g.faults after))
        by (Ok done) fault = tt
        by (Err r) fault = λ is. let rose = fault is in omega (arith, rose, one.disk.later)

    -- front: what the first of them did
    module _ (start : D) (w : World) (first : Completed) (made : List Installed) (held : IsHeld g start a before w first made) (front : WroteUp g start w first made a b before mid) where
      abbrev v : World
      v = record w { shelf = front.shelf }

      on_then : (shelf : ℕ → List Row) (next : Machine) → WroteOn g start v first made b c mid after shelf next → WroteOn g start w first made a c before after shelf next
      on_then shelf next x = record {
        later = record { faults = (let one = front.wrote.later.faults in let two = x.later.faults in omega (arith, one, two)); moment = (let one = front.wrote.later.moment in let two = x.later.moment in omega (arith, one, two)) };
        capacity = x.capacity ∙ front.wrote.capacity;
        held = x.held;
      }

      up_then : WroteUp g start v first made b c mid after → WroteUp g start w first made a c before after
      up_then x = record {
        shelf = x.shelf;
        wrote = on_then x.shelf w.machine x.wrote;
        keeps = record { capacity = x.keeps.capacity ∙ front.keeps.capacity; checkpoint = λ o has. x.keeps.checkpoint o (front.keeps.checkpoint o has) };
      }

      rose_then : Rose (g.faults mid) (g.faults after) → Rose (g.faults before) (g.faults after)
      rose_then rose = let low = front.wrote.later.faults in omega (arith, rose, low)

      -- the number of the checkpoint is the one that it was
      counted_then : w.machine.fault ≡ None → (number : ℕ) → IsNumberOf (g.seen mid) number → IsNumberOf (g.seen before) number
      counted_then up number counted =
          let on = held.on up in
          subst (λ (n : ℕ). IsNumberOf (g.seen before) n) (sym (one_number (g.seen mid) on.old number (front.keeps.checkpoint on.old on.on.stands.seen_has) counted)) (numbered (g.seen before) on.old on.on.stands.seen_has)

      barred_then : (r : Refusal) (number : ℕ) → IsNumberOf (g.seen mid) number → MayStart w.machine number (Err r) → (f : Option Fault) → w.machine.fault ≡ f → WhyNoMore g start w first made a c before after r
      barred_then r number counted barred None up = inr (inl (number, counted_then up number counted, barred))
      barred_then r number counted barred (Some fault) fell = inl (fault, barred_down w.machine number fault r fell barred, fell)

      why_then : (r : Refusal) → WhyNoMore g start v first made b c mid after r → WhyNoMore g start w first made a c before after r
      why_then r (inl down) = inl down
      why_then r (inr (inl (number, counted, barred))) = barred_then r number counted barred w.machine.fault refl
      why_then r (inr (inr (is, rose))) = inr (inr (is, rose_then rose))

      out_then : (r : Result (Unit {0}) Refusal) → WritesOut g start v first made b c mid after r → WritesOut g start w first made a c before after r
      out_then (Ok done) x = up_then x
      out_then (Err r) (inl (x, why)) = inl (up_then x, why_then r why)
      out_then (Err r) (inr x) = inr (record { is = x.is; rose = rose_then x.rose; fault = x.fault; shelf = x.shelf; wrote = on_then x.shelf (after_event w.machine (GoDown x.fault)) x.wrote })

    pub then_wrote : (result : Result (Unit {0}) Refusal) → g.honest mid ≡ g.honest before → WritesFrom g a b before mid (Ok tt) → WritesFrom g b c mid after result → WritesFrom g a c before after result
    then_wrote result same one two honest start w first made held =
        let front = one honest start w first made held in
        out_then start w first made held front result (two (same ∙ honest) start (record w { shelf = front.shelf }) first made front.wrote.held)

-- so far
pub record SoFar {D : Type 0} (g : Ghosts D) (a b : Store) (before now : D) : Type 0 where
  pub writes : WritesFrom g a b before now (Ok tt)
  pub alike : WritesAlike g a b before now (Ok tt)

-- of what is the same
pub joined : {D : Type 0} (g : Ghosts D) (a : Store) (before : D) (b b' : Store) (now now' : D) → b' ≡ b → now' ≡ now → WritesFrom g a b before now (Ok tt) → WritesAlike g a b before now (Ok tt) → SoFar g a b' before now'
joined {D} g a before b b' now now' store disk writes alike =
    subst (λ (d : D). SoFar g a b' before d) (sym disk) (subst (λ (x : Store). SoFar g a x before now) (sym store) (record { writes = writes; alike = alike }))
