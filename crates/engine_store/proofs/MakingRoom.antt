-- What the eviction of leaves leaves of what holds between two calls.
use Rattle.std.proofs.Common.{◌≡◌, ◌⊎◌, ◌≤◌, ◌∙◌, ℕ, List, [], ◌∷◌, Option, Some, None, Result, Ok, Err, refl, sym, ap, subst, inl, inr, arith}
use Rattle.std.specs.Prelude.{◌==◌, ◌<◌, Bool, true, false, ◌||◌, if◌then◌else◌}
use Rattle.std.specs.List.{Contains}
use Rattle.std.proofs.lemmas.Bool.{ne_eqb}
use Rattle.failure.specs.Counts.{Rose}
use Rattle.failure.specs.declared.Fault.{Fault}
use Rattle.device_layout.specs.declared.link.Link.{Link}
use Rattle.disk_model.specs.Crash.{LeavesOnly, SameDisk}
use Rattle.disk_model.specs.declared.disk.Disk.{Ghosts}
use Rattle.wt_code.specs.declared.refusals.Refusal.{Refusal}
use Rattle.wt_code.specs.declared.refusals.Refusal.TheVariants.{DiskFault, Panic}
use Rattle.kv_model.specs.Machine.{Completed, GoDown, Machine, after as after_event}
use Rattle.row_page.specs.Rows.{Row}
use Rattle.stored.specs.Stored.{Stored}
use Rattle.checkpoint_core.specs.Finishes.{IsOld}
use Rattle.checkpoint_core.specs.Stands.{HasStill}
use Rattle.reconcile.specs.Moving.{versions_in}
use Rattle.tree_dir.specs.declared.leaf.Leaf.{Leaf}
use Rattle.call_turns.proofs.Walks.{named-is}
use Rattle.engine.proofs.LeavesCome.{named-there}
use Rattle.engine_world.specs.Evicting.{led_out, with_rows}
use Rattle.engine_world.specs.GoingOut.{with_again}
use Rattle.engine_world.specs.Stands.{Engine, Stands}
use Rattle.engine_world.specs.Systems.{DownsGo}
use Rattle.engine_world.specs.Worlds.{Records, World, with_records}
use Rattle.engine.specs.Evictions.{HasBeenEvicted, MayBeEvicted}
use Rattle.evict_step.specs.Cuts.{IsLeastUnended}
use Rattle.evict_step.specs.Kept.{KeepsThese, with_moved}
use Rattle.ckpt_step.specs.declared.evicting.Evicted.{Evicted}
use Rattle.ckpt_step.specs.declared.evicting.Evicted.TheVariants.{Done, Parted, Emptied, Stays, Unresolved, Empty}
use Rattle.ckpt_step.specs.declared.ground.Ground.{Ground}
use Rattle.ckpt_step.specs.Evicts.{Evicts, EvictsEngine, HasLeftFrame, HasLeftInParts, KeepsStill, LeftEmpty, WhyNotNow}
use Rattle.ckpt_step.specs.Floors.{AreLivesOn, Follows}
use Rattle.ckpt_step.specs.Grounds.{StandsOn, number_of}
use Rattle.ckpt_step.specs.WritesOut.{FallenOut, NotWritten, WhyNotOut}
use Rattle.engine_store.specs.declared.store.Store.{Store}
use Rattle.engine_store.specs.Devices.{Installed, IsLater, IsNumberOf, KeepsCheckpoint, device_of, may_open_to}
use Rattle.engine_store.specs.Held.{IsGrounded, IsHeld, IsHeldIn}
use Rattle.engine_store.specs.Running.{RunsOver}
use Rattle.engine_store.specs.Room.{MakesRoom, RoomAlike, RoomDown, RoomMade, RoomOf, RoomUp}
use Rattle.engine_store.proofs.Contents.{numbered}
use Rattle.engine_store.proofs.CutShelves.{below, changed_there, cut, cut_past, follows_cut, kept_parted, on_cut, stands_cut}
use Rattle.engine_store.proofs.GoingOut.{held_out, none_out}
use Rattle.engine_store.proofs.OtherRecords.{held_kept, keeps_at}
use Rattle.engine_store.proofs.CheckpointTaken.{kept_held}
use Rattle.engine_store.proofs.UnderWayStill.{runs_down}
use Rattle.engine_store.proofs.WritingOut.{alike_then, still_later}

-- ---- none is, but that the hand went on

module _ {D : Type 0} (g : Ghosts D) where
  pub still_up : (s s' : Store) → s'.engine ≡ s.engine → s'.ground ≡ s.ground → s'.running ≡ s.running → s'.frames ≡ s.frames → (start disk : D) (w : World) (first : Completed) (made : List Installed) → IsHeld g start s disk w first made → RoomUp g start w first made s s' disk disk
  still_up s s' engine ground running frames start disk w first made held = record {
    room = record {
      shelf = w.shelf;
      again = w.again;
      more = λ session is. is;
      later = record { faults = omega arith; moment = omega arith };
      capacity = refl;
      held = held_out g s s' (none_out g s s' engine ground running frames) start disk w first made held;
    };
    keeps = record { capacity = refl; checkpoint = λ o has. has };
  }

  pub still_room : (s s' : Store) → s'.engine ≡ s.engine → s'.ground ≡ s.ground → s'.running ≡ s.running → s'.frames ≡ s.frames → (disk : D) → MakesRoom g s s' disk disk
  still_room s s' engine ground running frames disk honest start w first made held = inl (still_up s s' engine ground running frames start disk w first made held)

  pub still_alike : (s s' : Store) → s'.engine ≡ s.engine → s'.ground ≡ s.ground → s'.running ≡ s.running → s'.frames ≡ s.frames → (disk : D) → RoomAlike g s s' disk disk
  still_alike s s' engine ground running frames disk = record {
    alike = record {
      running = running;
      frames = frames;
      sessions = ap (λ (e : Engine). e.sessions) engine;
      tables = ap (λ (e : Engine). e.hub.tables) engine;
      txns = ap (λ (e : Engine). e.hub.txns) engine;
      number = ap (λ (x : Ground). x.number) ground;
      trees = ap (λ (x : Ground). x.trees) ground;
    };
    disk = record { same = refl; room = refl; home = refl; later = omega arith };
  }

-- ---- some are, and then others

module _ {D : Type 0} (g : Ghosts D) (a b c : Store) (before mid after : D) where
  pub alike_more : RoomAlike g a b before mid → RoomAlike g b c mid after → RoomAlike g a c before after
  alike_more one two = record {
    alike = alike_then g a b c before mid after one.alike two.alike;
    disk = record { same = two.disk.same ∙ one.disk.same; room = two.disk.room ∙ one.disk.room; home = two.disk.home ∙ one.disk.home; later = omega (arith, one.disk.later, two.disk.later) };
  }

  module _ (start : D) (w : World) (first : Completed) (made : List Installed) where
    -- the world in between
    abbrev between : (next : Machine) → RoomMade g start w first made a b before mid next → World
    between next x = record w { machine = next; shelf = x.shelf; again = x.again }

    room_more : (next last : Machine) (x : RoomMade g start w first made a b before mid next) → RoomMade g start (between next x) first made b c mid after last → RoomMade g start w first made a c before after last
    room_more next last x y = record {
      shelf = y.shelf;
      again = y.again;
      more = λ session is. y.more session (x.more session is);
      later = record { faults = (let one = x.later.faults in let two = y.later.faults in omega (arith, one, two)); moment = (let one = x.later.moment in let two = y.later.moment in omega (arith, one, two)) };
      capacity = y.capacity ∙ x.capacity;
      held = y.held;
    }

    sooner : g.faults before ≤ g.faults mid → Rose (g.faults mid) (g.faults after) → Rose (g.faults before) (g.faults after)
    sooner le rose = omega (arith, le, rose)

    longer : g.faults mid ≤ g.faults after → Rose (g.faults before) (g.faults mid) → Rose (g.faults before) (g.faults after)
    longer le rose = omega (arith, le, rose)

    up_more : (x : RoomUp g start w first made a b before mid) → RoomOf g start (between w.machine x.room) first made b c mid after → RoomOf g start w first made a c before after
    up_more x (inl y) = inl (record {
      room = room_more w.machine w.machine x.room y.room;
      keeps = record { capacity = y.keeps.capacity ∙ x.keeps.capacity; checkpoint = λ o has. y.keeps.checkpoint o (x.keeps.checkpoint o has) };
    })
    up_more x (inr y) = inr (record { fault = y.fault; rose = sooner x.room.later.faults y.rose; room = room_more w.machine (after_event w.machine (GoDown y.fault)) x.room y.room })

    down_more : (x : RoomDown g start w first made a b before mid) → RoomOf g start (between (after_event w.machine (GoDown x.fault)) x.room) first made b c mid after → RoomOf g start w first made a c before after
    down_more x (inl y) = inr (record { fault = x.fault; rose = longer y.room.later.faults x.rose; room = room_more (after_event w.machine (GoDown x.fault)) (after_event w.machine (GoDown x.fault)) x.room y.room })
    down_more x (inr y) = inr (record { fault = y.fault; rose = longer y.room.later.faults x.rose; room = room_more (after_event w.machine (GoDown x.fault)) (after_event w.machine (GoDown y.fault)) x.room y.room })

  pub makes_more : g.honest mid ≡ g.honest before → MakesRoom g a b before mid → MakesRoom g b c mid after → MakesRoom g a c before after
  makes_more same one two honest start w first made held = by (one honest start w first made held)
    where
      by : RoomOf g start w first made a b before mid → RoomOf g start w first made a c before after
      by (inl x) = up_more start w first made x (two (same ∙ honest) start (between start w first made w.machine x.room) first made x.room.held)
      by (inr x) = down_more start w first made x (two (same ∙ honest) start (between start w first made (after_event w.machine (GoDown x.fault)) x.room) first made x.room.held)

-- ---- a leaf

module _ {D : Type 0} (g : Ghosts D) (start_disk : D) (w : World) (first : Completed) (made : List Installed) (s s' : Store) (before after : D) (id : ℕ) where
  -- it might leave its frame; or why it stays, with the engine as it was
  abbrev pub WhyEvicted : Evicted → Type 0
  WhyEvicted Done = MayBeEvicted s.engine id
  WhyEvicted Parted = MayBeEvicted s.engine id
  WhyEvicted Emptied = MayBeEvicted s.engine id
  WhyEvicted (Stays why) = (s'.engine ≡ s.engine) × WhyNotNow s.engine w.machine id why
  WhyEvicted (Unresolved by) = (s'.engine ≡ s.engine) × IsLeastUnended s.engine w.machine id by
  WhyEvicted _ = s'.engine ≡ s.engine

  -- what is left, and why it is told
  abbrev pub LeafTold : Result Evicted Refusal → Type 0
  LeafTold (Ok evicted) = RoomUp g start_disk w first made s s' before after × WhyEvicted evicted
  LeafTold (Err r) =
      (RoomUp g start_disk w first made s s' before after
      × ((number : ℕ) × IsNumberOf (g.seen before) number × WhyNotOut (Rose (g.faults before) (g.faults after)) (g.seen before) (g.capacity before) s.ground.lives w.machine s.engine.hub.dir.leaves number id r))
      ⊎ (RoomDown g start_disk w first made s s' before after × ((r ≡ DiskFault) × ((number : ℕ) × IsNumberOf (g.seen before) number)))

or_later : (a b : Bool) → b ≡ true → a || b ≡ true
or_later true b is = refl
or_later false b is = is

module _ {D : Type 0} (g : Ghosts D) (start_disk before after : D)
    (counts : g.moment before ≤ g.moment after → (c : List ℕ) → g.may_leave after c → g.left_since after (g.moment before) c) (only : (c : List ℕ) → g.left_since after (g.moment after) c → g.may_leave after c)
    (image : g.may_leave before (g.seen before)) (s s' : Store) (frames : s'.frames ≡ s.frames) (running : s'.running ≡ s.running) (over : (m : Machine) → RunsOver s.ground s.running m → RunsOver s'.ground s'.running m) (w : World) (first : Completed) (made : List Installed) (held : IsHeldIn g start_disk s before w first made)
    (disk : SameDisk g before after) (downs : DownsGo) (id : ℕ) where
  abbrev Made : Type 0
  Made = RoomOf g start_disk w first made s s' before after

  -- ---- of an engine that is up

  module _ (grounded : IsGrounded (g.seen before) (g.may_leave before) s w (may_open_to (first ∷ []) made)) where
    abbrev Kept : Type 0
    Kept = LeavesOnly g before after (IsOld (g.may_leave before) grounded.old)

    is_later : Kept → IsLater (device_of g before) (device_of g after)
    is_later left = record { faults = disk.later; moment = left.later }

    keeps : HasStill grounded.old (g.seen after) → KeepsCheckpoint (device_of g before) (device_of g after)
    keeps now = record { capacity = disk.room; checkpoint = still_later (g.seen before) (g.seen after) grounded.old grounded.on.stands.seen_has now }

    -- with this on the shelf and in the history, and these calls that may be told so
    went : (shelf : ℕ → List Row) (records : Records) (again : ℕ → Bool) → ((session : ℕ) → w.again session ≡ true → again session ≡ true) → Kept → Stands s'.engine (record w { shelf = shelf; records = records; again = again }) → KeepsThese (record w { shelf = shelf; records = records; again = again }) s'.ground.kept → ((id : ℕ) → s'.engine.hub.dir.next ≤ id → shelf id ≡ [])
        → StandsOn (g.seen after) (g.may_leave after) s'.engine.hub s'.ground grounded.old → Follows grounded.old s'.engine.hub s'.ground (record w { shelf = shelf; records = records; again = again }) → AreLivesOn (g.seen after) s'.engine.hub s'.ground (record w { shelf = shelf; records = records; again = again })
        → RoomUp g start_disk w first made s s' before after
    went shelf records again more left stands keeps_these bare on follows since = record {
      room = record {
        shelf = shelf;
        again = again;
        more = more;
        later = is_later left;
        capacity = disk.room;
        held = held_kept g start_disk after s' (record w { shelf = shelf; records = records; again = again }) first made (kept_held g start_disk before after counts only image s s' w first made held grounded (record w { shelf = shelf; records = records; again = again }) stands keeps_these bare (over w.machine held.running) refl left (λ up. (on, follows, since)));
      };
      keeps = keeps on.stands.seen_has;
    }

    -- the leaf is there still, and its id was given before
    still_there : (link : Link) → HasBeenEvicted s.engine s'.engine id link → (l : Leaf) × Contains s'.engine.hub.dir.leaves l × (l.id ≡ id)
    still_there link out = subst (λ (e : Engine). (l : Leaf) × Contains e.hub.dir.leaves l × (l.id ≡ id)) (sym out.is) (changed_there id (led_out link) s.engine.hub.dir.leaves (λ l. refl) out.may.leaf (named-there id s.engine.hub.dir.leaves out.may.leaf out.may.there) (named-is id s.engine.hub.dir.leaves out.may.leaf out.may.there))

    rows_bare : (rows : List Row) (link : Link) → HasBeenEvicted s.engine s'.engine id link → (other : ℕ) → s'.engine.hub.dir.next ≤ other → (if other == id then rows else w.shelf other) ≡ []
    rows_bare rows link out other late =
        let last : s.engine.hub.dir.next ≤ other = subst (λ (e : Engine). e.hub.dir.next ≤ other) out.is late in
        let lower : id < s.engine.hub.dir.next = subst (λ (n : ℕ). n < s.engine.hub.dir.next) (named-is id s.engine.hub.dir.leaves out.may.leaf out.may.there) (below s.engine.hub.dir out.may.leaf held.stands.dir (named-there id s.engine.hub.dir.leaves out.may.leaf out.may.there)) in
        let isnt : (other == id) ≡ false = ne_eqb other id (λ same. omega (arith, last, lower, same)) in
        rw isnt (held.bare other last)

    -- it left its frame
    goes : HasLeftFrame g grounded.old w s.ground s'.ground s.engine s'.engine id before after → RoomUp g start_disk w first made s s' before after
    goes h =
        let x = h.left in
        let v : World = with_records id (λ key. versions_in key h.moved) (with_rows id x.rows (with_again s.engine x.out.may.framed.frame w)) in
        went v.shelf v.records v.again (λ session is. or_later _ (w.again session) is) x.left x.stands
        (keeps_at s.ground.kept s'.ground.kept id x.rows h.moved s'.engine (with_again s.engine x.out.may.framed.frame w) x.stands (still_there x.link x.out) held.kept h.kept) (rows_bare x.rows x.link x.out) x.on x.follows x.since

    -- it parted
    parts : HasLeftInParts g grounded.old w s.ground s'.ground s.engine s'.engine id before after → RoomUp g start_disk w first made s s' before after
    parts h =
        let x = h.left in
        let leaves = s'.engine.hub.dir.leaves in
        let table = x.parted.way.leaf.table in
        let v : World = record w { shelf = x.shelf; records = with_moved leaves table h.moved w.records } in
        let n = s'.engine.hub.dir.next in
        let stands = stands_cut s'.engine v x.stands in
        went (cut n x.shelf) v.records w.again (λ session is. is) x.left stands
        (kept_parted s.engine w s.ground.kept held.stands held.kept held.bare s'.engine table h.moved x.shelf s'.ground.kept h.kept x.ids x.to.others x.to.kept stands) (λ id late. cut_past n x.shelf id late)
        x.on (follows_cut grounded.old s'.engine.hub s'.ground v x.stands.dir x.follows) (on_cut (g.seen after) s'.engine.hub s'.ground v x.stands.dir x.since)

    -- it has no keys, and left its frame without a block
    empties : LeftEmpty g grounded.old w s.ground s'.ground s.engine s'.engine id before after → RoomUp g start_disk w first made s s' before after
    empties x =
        let v : World = with_records id (λ key. []) (with_rows id [] (with_again s.engine x.out.may.framed.frame w)) in
        went v.shelf v.records v.again (λ session is. or_later _ (w.again session) is) x.left x.stands
        (keeps_at s.ground.kept s'.ground.kept id [] [] s'.engine (with_again s.engine x.out.may.framed.frame w) x.stands (still_there x.link x.out) held.kept x.kept) (rows_bare [] x.link x.out) x.on x.follows x.since

    -- it stays
    stays : NotWritten g grounded.old w s.ground s'.ground s.engine s'.engine id before after → KeepsThese w s'.ground.kept → RoomUp g start_disk w first made s s' before after
    stays n keeps_these =
        went w.shelf w.records w.again (λ session is. is) n.left (subst (λ (e : Engine). Stands e w) (sym n.same) held.stands) keeps_these (λ id late. held.bare id (subst (λ (e : Engine). e.hub.dir.next ≤ id) n.same late)) (subst (λ (e : Engine). StandsOn (g.seen after) (g.may_leave after) e.hub s'.ground grounded.old) (sym n.same) n.on)
        (subst (λ (e : Engine). Follows grounded.old e.hub s'.ground w) (sym n.same) n.follows) (subst (λ (e : Engine). AreLivesOn (g.seen after) e.hub s'.ground w) (sym n.same) n.since)

    -- a write failed
    fell : (r : Refusal) → FallenOut g grounded.old w s.ground s'.ground s.engine s'.engine id before after r → KeepsThese w s'.ground.kept → RoomDown g start_disk w first made s s' before after
    fell r f keeps_these =
        let down : World = record w { machine = after_event w.machine (GoDown f.fault) } in
        record {
          fault = f.fault;
          rose = f.rose;
          room = record {
            shelf = w.shelf;
            again = w.again;
            more = λ session is. is;
            later = is_later f.left;
            capacity = disk.room;
            held = held_kept g start_disk after s' down first made (kept_held g start_disk before after counts only image s s' w first made held grounded down (subst (λ (e : Engine). Stands e down) (sym f.down) (downs s.engine w f.fault held.stands)) keeps_these (λ id late. held.bare id (subst (λ (e : Engine). e.hub.dir.next ≤ id) f.down late)) (runs_down s'.ground s'.running w.machine f.fault held.stands.valid (downs s.engine w f.fault held.stands).valid (over w.machine held.running)) refl f.left (λ up. absurd (not_up f.fault up)));
          };
        }
      where
        not_up : (fault : Fault) → (after_event w.machine (GoDown fault)).fault ≡ None → ⊥
        not_up fault up = let e : Some fault ≡ None = up in cc

    by_result : (result : Result Evicted Refusal) → Evicts g grounded.old w s.ground s'.ground s.engine s'.engine id before after result → KeepsStill w s'.ground.kept result → Made
    by_result (Ok Done) x still = inl (goes x)
    by_result (Ok Parted) x still = inl (parts x)
    by_result (Ok Emptied) x still = inl (empties x)
    by_result (Ok (Stays why)) (n, keeps) still = inl (stays n still)
    by_result (Ok (Unresolved who)) (n, unended) still = inl (stays n still)
    by_result (Ok Empty) (n, none) still = inl (stays n still)
    by_result (Err r) (inl (n, why)) still = inl (stays n still)
    by_result (Err r) (inr f) still = inr (fell r f still)

    -- ---- and what is told of it

    told_by : (result : Result Evicted Refusal) → Evicts g grounded.old w s.ground s'.ground s.engine s'.engine id before after result → KeepsStill w s'.ground.kept result → LeafTold g start_disk w first made s s' before after id result
    told_by (Ok Done) x still = (goes x, x.left.out.may)
    told_by (Ok Parted) x still = (parts x, x.left.parted.may.may)
    told_by (Ok Emptied) x still = (empties x, x.out.may)
    told_by (Ok (Stays why)) (n, keeps) still = (stays n still, (n.same, keeps))
    told_by (Ok (Unresolved who)) (n, least) still = (stays n still, (n.same, least))
    told_by (Ok Empty) (n, none) still = (stays n still, n.same)
    told_by (Err r) (inl (n, why)) still = inl (stays n still, (number_of grounded.old, numbered (g.seen before) grounded.old grounded.on.stands.seen_has, why))
    told_by (Err r) (inr f) still = inr (fell r f still, (f.is, (number_of grounded.old, numbered (g.seen before) grounded.old grounded.on.stands.seen_has)))

  -- ---- of either

  module _ (result : Result Evicted Refusal)
      (evicts : (old : Option Stored) → StandsOn (g.seen before) (g.may_leave before) s.engine.hub s.ground old → Follows old s.engine.hub s.ground w → AreLivesOn (g.seen before) s.engine.hub s.ground w → Evicts g old w s.ground s'.ground s.engine s'.engine id before after result)
      (down : (fault : Fault) → s.engine.hub.fault ≡ Some fault → (result ≡ Err (Panic fault)) × (s'.engine ≡ s.engine) × (s'.ground ≡ s.ground) × (after ≡ before)) (still : KeepsStill w s'.ground.kept result) where
    by_fault : (f : Option Fault) → w.machine.fault ≡ f → Made
    by_fault None up = let on = held.on up in by_result on result (evicts on.old on.on on.follows on.since) still
    by_fault (Some fault) fell =
        let t = down fault (held.stands.fault ∙ fell) in
        subst (λ (d : D). RoomOf g start_disk w first made s s' before d) (sym t.3) (inl (still_up g s s' t.1 t.2 running frames start_disk before w first made (held_kept g start_disk before s w first made held)))

    pub leaf_room : Made
    leaf_room = by_fault w.machine.fault refl

    -- of an engine that is up
    pub leaf_told : w.machine.fault ≡ None → LeafTold g start_disk w first made s s' before after id result
    leaf_told up = let on = held.on up in told_by on result (evicts on.old on.on on.follows on.since) still

-- whatever the disk
pub leaf_alike : {D : Type 0} (g : Ghosts D) (s s' : Store) (before after : D) → s'.running ≡ s.running → s'.frames ≡ s.frames → s'.ground.number ≡ s.ground.number → s'.ground.trees ≡ s.ground.trees → SameDisk g before after
    → (s'.engine.hub.tables ≡ s.engine.hub.tables) × (s'.engine.hub.txns ≡ s.engine.hub.txns) → (id : ℕ) (result : Result Evicted Refusal) → EvictsEngine s.engine s'.engine id result → RoomAlike g s s' before after
leaf_alike g s s' before after running frames number trees disk hub id result evicts = record { alike = record { running = running; frames = frames; sessions = by result evicts; tables = hub.0; txns = hub.1; number = number; trees = trees }; disk = disk }
  where
    same : s'.engine ≡ s.engine → s'.engine.sessions ≡ s.engine.sessions
    same is = ap (λ (e : Engine). e.sessions) is

    by : (r : Result Evicted Refusal) → EvictsEngine s.engine s'.engine id r → s'.engine.sessions ≡ s.engine.sessions
    by (Ok Done) (link, out) = ap (λ (e : Engine). e.sessions) out.is
    by (Ok Parted) (entries, parted) = ap (λ (e : Engine). e.sessions) parted.way.is
    by (Ok Emptied) (link, out) = ap (λ (e : Engine). e.sessions) out.is
    by (Ok (Stays why)) is = same is
    by (Ok (Unresolved who)) is = same is
    by (Ok Empty) is = same is
    by (Err r) (inl is) = same is
    by (Err r) (inr (fault, is)) = ap (λ (e : Engine). e.sessions) is

-- so far
pub record RoomSoFar {D : Type 0} (g : Ghosts D) (a b : Store) (before now : D) : Type 0 where
  pub room : MakesRoom g a b before now
  pub alike : RoomAlike g a b before now

module _ {D : Type 0} (g : Ghosts D) (a b b' : Store) (before mid : D) (so_far : RoomSoFar g a b before mid) (engine : b'.engine ≡ b.engine) (ground : b'.ground ≡ b.ground) (running : b'.running ≡ b.running) (frames : b'.frames ≡ b.frames) where
  -- the hand went on
  pub room_passed : RoomSoFar g a b' before mid
  room_passed = record {
    room = makes_more g a b b' before mid mid so_far.alike.disk.same so_far.room (still_room g b b' engine ground running frames mid);
    alike = alike_more g a b b' before mid mid so_far.alike (still_alike g b b' engine ground running frames mid);
  }

  -- and then a leaf was evicted, or stayed
  pub room_goes : (c : Store) (after : D) → MakesRoom g b' c mid after → RoomAlike g b' c mid after → RoomSoFar g a c before after
  room_goes c after room alike = record {
    room = makes_more g a b' c before mid after so_far.alike.disk.same room_passed.room room;
    alike = alike_more g a b' c before mid after room_passed.alike alike;
  }

-- of what is the same
pub room_joined : {D : Type 0} (g : Ghosts D) (a : Store) (before : D) (b b' : Store) (now now' : D) → b' ≡ b → now' ≡ now → RoomSoFar g a b before now → RoomSoFar g a b' before now'
room_joined {D} g a before b b' now now' store disk so_far = subst (λ (d : D). RoomSoFar g a b' before d) (sym disk) (subst (λ (x : Store). RoomSoFar g a x before now) (sym store) so_far)
