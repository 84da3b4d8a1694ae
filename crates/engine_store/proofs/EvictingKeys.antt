-- What the eviction of the leaf of a key answers.
use Rattle.std.proofs.Common.{◌≡◌, ◌⊎◌, ◌∙◌, ℕ, List, Option, None, Some, Result, Ok, Err, refl, sym, ap, subst, inl, inr}
use Rattle.std.specs.Prelude.{IfErr, IfOk, option_map, slice_index_or}
use Rattle.std.proofs.lemmas.Option.{same_Some}
use Rattle.failure.specs.declared.Fault.{Fault}
use Rattle.disk_model.specs.declared.disk.Disk.{Ghosts}
use Rattle.wt_code.specs.declared.answers.Answer.{Answer}
use Rattle.wt_code.specs.declared.answers.Answer.TheVariants.{Done, Refused}
use Rattle.wt_code.specs.declared.refusals.Refusal.{Refusal}
use Rattle.wt_code.specs.declared.refusals.Refusal.TheVariants.{NoMemory, DiskFault, Busy as Refusal_Busy}
use Rattle.wt_code.specs.declared.refusals.Busy.TheVariants.{Unresolved as Busy_Unresolved}
use Rattle.kv_model.specs.History.{Table, named, tables}
use Rattle.kv_model.specs.Machine.{Completed, GoDown, Machine, after as after_event}
use Rattle.kv_model.specs.Decisions.{Done as Decided_Done, Refused as Decided_Refused}
use Rattle.kv_model.specs.Calls.{Around, Call, Evict, SystemAnswers}
use Rattle.tree_dir.specs.declared.leaf.Leaf.{Leaf}
use Rattle.tree_dir.specs.Leaves.{leaf_under}
use Rattle.engine_world.specs.Stands.{Engine, Stands}
use Rattle.engine_world.specs.Worlds.{World}
use Rattle.engine.specs.declared.evicting.Stays.{Stays}
use Rattle.engine.specs.Evictions.{framed_in}
use Rattle.ckpt_step.specs.declared.evicting.Evicted.{Evicted}
use Rattle.ckpt_step.specs.declared.evicting.Evicted.TheVariants.{Done as LeftIt, Parted as PartedIt, Emptied as EmptiedIt, Stays as StaysFor, Unresolved as UnresolvedBy, Empty}
use Rattle.ckpt_step.specs.Evicts.{WhyNotNow}
use Rattle.engine_store.specs.declared.store.Store.{Store}
use Rattle.engine_store.specs.Answers.{answer_of}
use Rattle.engine_store.specs.Devices.{Installed, IsNumberOf, device_of}
use Rattle.engine_store.specs.EvictCalls.{EvictAnswers, EvictsTo, IsKeptBy, IsLeafOf, IsOut, IsRefusedAtOnce, KeepsFromEvicting, KeepsInFrame, MayLook, WasFree, evict_around}
use Rattle.engine_store.specs.Held.{IsHeld}
use Rattle.engine_store.specs.Keeping.{with_kept}
use Rattle.engine_store.specs.Room.{RoomDown, RoomUp}
use Rattle.engine_store.proofs.AsHeld.{room_down_as, room_up_as}
use Rattle.engine_store.proofs.MakingRoom.{LeafTold, WhyEvicted, still_up}

-- a refusal is not done
pub not_done : (r : Refusal) → (let answer : Answer (List ℕ) = Refused r in answer ≡ Done) → ⊥
not_done r done = cc

-- ---- before the leaf is looked at

pub refused_so : (started : Option Call) (a : Around) (m : Machine) (name key : List ℕ) (r : Refusal) → IsRefusedAtOnce started m name key r → EvictAnswers started a m name key (Refused r) m
refused_so None a m name key r is = inr (inr (Decided_Refused r, is, refl, refl))
refused_so (Some other) a m name key r is = (ap (λ (x : Refusal). let answer : Answer (List ℕ) = Refused x in answer) is, refl)

pub looked_so : (started : Option Call) (a : Around) (m : Machine) (name key : List ℕ) (answer : Answer (List ℕ)) (next : Machine) → started ≡ None → SystemAnswers a m (Evict name key) answer next → EvictAnswers started a m name key answer next
looked_so None a m name key answer next none is = is
looked_so (Some other) a m name key answer next none is = absurd cc

module _ {D : Type 0} (g : Ghosts D) (start_disk : D) (w : World) (first : Completed) (made : List Installed) (number : ℕ) (name key : List ℕ) where
  -- refused at once: nothing is changed
  pub at_once : (s : Store) (disk : D) (r : Refusal) → IsHeld g start_disk s disk w first made → IsRefusedAtOnce (slice_index_or w.systems number None) w.machine name key r → EvictsTo g start_disk w first made s s disk disk number name key (Refused r)
  at_once s disk r held is =
      let x = still_up g s s refl refl refl refl start_disk disk w first made held in
      record {
        next = w.machine;
        room = x.room;
        answers = refused_so (slice_index_or w.systems number None) (evict_around s.engine s.ground.lives (device_of g disk) (device_of g disk) w.machine name key) w.machine name key r is;
        keeps = λ up. x.keeps;
        out = λ done. absurd (not_done r done);
        free = λ done. absurd (not_done r done);
      }

  -- ---- where it is

  module _ (s s' : Store) (before after : D) (look : MayLook (slice_index_or w.systems number None) w.machine name key) where
    abbrev a : Around
    a = evict_around s.engine s.ground.lives (device_of g before) (device_of g after) w.machine name key

    answers : (answer : Answer (List ℕ)) (next : Machine) → SystemAnswers a w.machine (Evict name key) answer next → EvictAnswers (slice_index_or w.systems number None) a w.machine name key answer next
    answers answer next is = looked_so (slice_index_or w.systems number None) a w.machine name key answer next look.none is

    -- the leaf is in no frame
    pub is_out : RoomUp g start_disk w first made s s' before after → IsOut s'.engine w.machine name key → ((id : ℕ) → IsLeafOf s.engine w.machine name key id → WasFree s.engine id) → EvictsTo g start_disk w first made s s' before after number name key Done
    is_out x out free = record {
      next = w.machine;
      room = x.room;
      answers = answers Done w.machine (inr (inr (Decided_Done, look.decided, refl, refl)));
      keeps = λ up. x.keeps;
      out = λ done. out;
      free = λ done. free;
    }

    -- memory was short
    pub is_short : RoomUp g start_disk w first made s s' before after → (r : Refusal) → r ≡ NoMemory → EvictsTo g start_disk w first made s s' before after number name key (Refused r)
    is_short x r is = record {
      next = w.machine;
      room = x.room;
      answers = answers (Refused r) w.machine (inl (ap (λ (y : Refusal). let answer : Answer (List ℕ) = Refused y in answer) is, refl));
      keeps = λ up. x.keeps;
      out = λ done. absurd (not_done r done);
      free = λ done. absurd (not_done r done);
    }

    module _ (id : ℕ) (leaf : IsLeafOf s.engine w.machine name key id) where
      -- it is kept
      pub is_kept : RoomUp g start_disk w first made s s' before after → (r : Refusal) → KeepsFromEvicting s.engine s.ground.lives (device_of g before) (device_of g after) w.machine id r
          → EvictsTo g start_disk w first made s s' before after number name key (Refused r)
      is_kept x r keeps = record {
        next = w.machine;
        room = x.room;
        answers = answers (Refused r) w.machine (inr (inl (r, (id, leaf, keeps), refl, inl refl)));
        keeps = λ up. x.keeps;
        out = λ done. absurd (not_done r done);
        free = λ done. absurd (not_done r done);
      }

      -- a write failed
      pub is_down : RoomDown g start_disk w first made s s' before after → (r : Refusal) → r ≡ DiskFault → (n : ℕ) → IsNumberOf (g.seen before) n → EvictsTo g start_disk w first made s s' before after number name key (Refused r)
      is_down x r is n numbered =
          let next = after_event w.machine (GoDown x.fault) in
          record {
            next = next;
            room = x.room;
            answers = answers (Refused r) next (inr (inl (r, (id, leaf, inr (n, numbered, inr (inr (inr (is, x.rose))))), refl, inr (is, (x.fault, refl)))));
            keeps = λ up. absurd (not_up x.fault up);
            out = λ done. absurd (not_done r done);
            free = λ done. absurd (not_done r done);
          }
        where
          not_up : (fault : Fault) → (after_event w.machine (GoDown fault)).fault ≡ None → ⊥
          not_up fault up = let e : Some fault ≡ None = up in cc

      -- by what memory or the engine as it was tell
      pub is_told : RoomUp g start_disk w first made s s' before after → (r : Refusal) → IsKeptBy s.engine w.machine id r → EvictsTo g start_disk w first made s s' before after number name key (Refused r)
      is_told x r (inl short) = is_short x r short
      is_told x r (inr keeps) = is_kept x r (inl keeps)

-- ---- which leaf it is

module _ (e : Engine) (m : Machine) (name key : List ℕ) where
  -- the table of this number
  abbrev IsTableOf : ℕ → Type 0
  IsTableOf n = Some n ≡ option_map (λ (t : Table). t.number) (named name (tables m.history))

  number_is : (n : ℕ) → IsTableOf n → (id : ℕ) (x : IsLeafOf e m name key id) → n ≡ x.table.number
  number_is n of id x = same_Some n x.table.number (of ∙ ap (option_map (λ (t : Table). t.number)) x.known)

  under_is : (n : ℕ) → IsTableOf n → (id : ℕ) (x : IsLeafOf e m name key id) → leaf_under n key e.hub.dir.leaves ≡ Some x.leaf
  under_is n of id x = subst (λ (k : ℕ). leaf_under k key e.hub.dir.leaves ≡ Some x.leaf) (sym (number_is n of id x)) x.under

  -- it is the only one
  pub same_leaf : (id other : ℕ) → IsLeafOf e m name key id → IsLeafOf e m name key other → id ≡ other
  same_leaf id other x y =
      let n : Some x.table.number ≡ option_map (λ (t : Table). t.number) (named name (tables m.history)) = sym (ap (option_map (λ (t : Table). t.number)) x.known) in
      sym x.is ∙ ap (λ (l : Leaf). l.id) (same_Some x.leaf y.leaf (sym x.under ∙ under_is x.table.number n other y)) ∙ y.is

-- ---- of the bytes of items

module _ (name name' key key' : List ℕ) (names : name ≡ name') (keys : key ≡ key') where
  pub refused_of : (started : Option Call) (m : Machine) (r : Refusal) → IsRefusedAtOnce started m name key r → IsRefusedAtOnce started m name' key' r
  refused_of started m r is = subst (λ (k : List ℕ). IsRefusedAtOnce started m name' k r) keys (subst (λ (n : List ℕ). IsRefusedAtOnce started m n key r) names is)

  pub look_of : (started : Option Call) (m : Machine) → MayLook started m name key → MayLook started m name' key'
  look_of started m is = subst (λ (k : List ℕ). MayLook started m name' k) keys (subst (λ (n : List ℕ). MayLook started m n key) names is)

  pub out_of : (e : Engine) (m : Machine) → IsOut e m name key → IsOut e m name' key'
  out_of e m is = subst (λ (k : List ℕ). IsOut e m name' k) keys (subst (λ (n : List ℕ). IsOut e m n key) names is)

  pub leaf_of : (e : Engine) (m : Machine) (id : ℕ) → IsLeafOf e m name key id → IsLeafOf e m name' key' id
  leaf_of e m id is = subst (λ (k : List ℕ). IsLeafOf e m name' k id) keys (subst (λ (n : List ℕ). IsLeafOf e m n key id) names is)

  pub outs_of : (e : Engine) (result : Result (Unit {0}) Refusal) → IfOk result (λ done. (u : World) → Stands e u → IsOut e u.machine name key) → IfOk result (λ done. (u : World) → Stands e u → IsOut e u.machine name' key')
  outs_of e (Ok done) is = λ u stands. out_of e u.machine (is u stands)
  outs_of e (Err r) is = tt

-- ---- the leaf was to be evicted

module _ {D : Type 0} (g : Ghosts D) (start_disk : D) (w : World) (first : Completed) (made : List Installed) (s s' : Store) (before after : D) (id number : ℕ) (name key : List ℕ) (look : MayLook (slice_index_or w.systems number None) w.machine name key)
    (leaf : IsLeafOf s.engine w.machine name key id) where
  abbrev v : World
  v = with_kept s.ground.kept w

  -- it stays for this reason
  pub stays_told : (why : Stays) (r : Refusal) → LeafTold g start_disk v first made s s' before after id (Ok (StaysFor why)) → ((u : World) → Stands s'.engine u → WhyNotNow s'.engine u.machine id why → IsKeptBy s'.engine u.machine id r) → Stands s.engine v
      → EvictsTo g start_disk w first made s s' before after number name key (Refused r)
  stays_told why r (x, (same, keeps)) told stands =
      is_told g start_disk w first made number name key s s' before after look id leaf (room_up_as g start_disk w v.records first made s s' before after x) r
      (subst (λ (e : Engine). IsKeptBy e w.machine id r) same (told v (subst (λ (e : Engine). Stands e v) (sym same) stands) (subst (λ (e : Engine). WhyNotNow e w.machine id why) (sym same) keeps)))

  -- it holds a version of a transaction that has not ended
  pub unresolved_told : (by : ℕ) → LeafTold g start_disk v first made s s' before after id (Ok (UnresolvedBy by)) → EvictsTo g start_disk w first made s s' before after number name key (Refused (Refusal_Busy (Busy_Unresolved by)))
  unresolved_told by (x, (same, least)) = is_kept g start_disk w first made number name key s s' before after look id leaf (room_up_as g start_disk w v.records first made s s' before after x) (Refusal_Busy (Busy_Unresolved by)) (inl least)

  -- in an engine that is the same it was in none
  still_out : s'.engine ≡ s.engine → IsOut s'.engine w.machine name key → framed_in s.engine id ≡ None
  still_out same out = subst (λ (e : Engine). IsOut e w.machine name key) same out id leaf

  -- it was free
  was_free : (evicted : Evicted) → WhyEvicted g start_disk v first made s s' before after id evicted → IsOut s'.engine w.machine name key → WasFree s.engine id
  was_free LeftIt may out = inr may
  was_free PartedIt may out = inr may
  was_free (StaysFor why) (same, keeps) out = inl (still_out same out)
  was_free (UnresolvedBy by) (same, least) out = inl (still_out same out)
  was_free EmptiedIt may out = inr may
  was_free Empty same out = inl (still_out same out)

  -- it left its frame, or did not
  pub gone_told : (evicted : Evicted) → LeafTold g start_disk v first made s s' before after id (Ok evicted) → (result : Result (Unit {0}) Refusal) → IfOk result (λ done. (u : World) → Stands s'.engine u → IsOut s'.engine u.machine name key)
      → IfErr result (λ r. r ≡ NoMemory) → EvictsTo g start_disk w first made s s' before after number name key (answer_of result)
  gone_told evicted (x, why) (Ok done) out short =
      let room = room_up_as g start_disk w v.records first made s s' before after x in
      let is_now = out _ room.room.held.stands in
      is_out g start_disk w first made number name key s s' before after look room is_now (λ other of. subst (WasFree s.engine) (same_leaf s.engine w.machine name key id other leaf of) (was_free evicted why is_now))
  gone_told evicted (x, why) (Err r) out short = is_short g start_disk w first made number name key s s' before after look (room_up_as g start_disk w v.records first made s s' before after x) r short

  -- it could not be written
  pub fault_told : (r : Refusal) → LeafTold g start_disk v first made s s' before after id (Err r) → EvictsTo g start_disk w first made s s' before after number name key (Refused r)
  fault_told r (inl (x, why)) = is_kept g start_disk w first made number name key s s' before after look id leaf (room_up_as g start_disk w v.records first made s s' before after x) r (inr why)
  fault_told r (inr (x, (is, (n, numbered)))) = is_down g start_disk w first made number name key s s' before after look id leaf (room_down_as g start_disk w v.records first made s s' before after x) r is n numbered

-- want of memory is no fault
pub no_fault : (Rises : Type 0) (result : Result (Unit {0}) Refusal) → IfErr result (λ r. r ≡ NoMemory) → IfErr result (λ r. r ≡ DiskFault → Rises)
no_fault Rises (Ok done) short = tt
no_fault Rises (Err r) short = λ fault. let clash : NoMemory ≡ DiskFault = sym short ∙ fault in absurd cc
