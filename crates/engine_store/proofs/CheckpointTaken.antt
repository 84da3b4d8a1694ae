-- What a checkpoint in one event leaves of what holds between two calls.
use Rattle.std.specs.Prelude.{OnErr}
use Rattle.std.proofs.Common.{◌≡◌, ◌⊎◌, ◌≤◌, ℕ, List, [], ◌∷◌, ◌++◌, reverse, Option, Some, None, Result, Ok, Err, refl, sym, ap, subst, ◌∙◌, inl, inr, arith}
use Rattle.std.proofs.lemmas.List.{reverse-reverse}
use Rattle.failure.specs.Counts.{Rose}
use Rattle.failure.specs.declared.Fault.{Fault}
use Rattle.disk_model.specs.Crash.{Each, LeavesOnly}
use Rattle.disk_model.specs.declared.disk.Disk.{Ghosts}
use Rattle.disk_model.proofs.Crash.{joined, widened}
use Rattle.wt_code.specs.declared.answers.Answer.TheVariants.{Refused}
use Rattle.wt_code.specs.declared.refusals.Refusal.{Refusal}
use Rattle.wt_code.specs.declared.refusals.Refusal.TheVariants.{DiskFault, Panic}
use Rattle.kv_model.specs.Content.{Content, OpensAs}
use Rattle.kv_model.specs.Decisions.{StartCall}
use Rattle.kv_model.specs.History.{Table, tables}
use Rattle.kv_model.specs.Machine.{Machine, Completed, CheckpointStart, GoDown, after as after_event}
use Rattle.kv_model.specs.Outside.{Stored as StoredWhole, NoPlace, ReadFailed, WriteFailed}
use Rattle.row_page.specs.Rows.{Row}
use Rattle.stored.specs.Opens.{Opens}
use Rattle.stored.specs.Stored.{Stored, Reads, IsOn, content_of}
use Rattle.stored.proofs.Device.{one_content}
use Rattle.checkpoint_core.specs.Finishes.{IsOld, IsEither}
use Rattle.device_leaf.specs.Closings.{content_was}
use Rattle.engine_world.specs.Leaves.{TablesBegun}
use Rattle.engine_world.specs.Stands.{Engine, Stands}
use Rattle.engine_world.specs.Systems.{DownsGo, checkpointed, with_fault}
use Rattle.engine_world.specs.Worlds.{World}
use Rattle.engine_world.proofs.HubMoves.{decided-down}
use Rattle.engine.specs.Checkpoints.{MayStart}
use Rattle.evict_step.specs.Kept.{KeepsThese, Lists}
use Rattle.ckpt_step.specs.declared.ground.Ground.{Ground}
use Rattle.ckpt_content.specs.Laws.{ReadFinishesOpen}
use Rattle.ckpt_step.specs.Floors.{AreLivesOn, Follows}
use Rattle.ckpt_step.specs.Giving.{CheckpointsHaveNewest, HasNewest}
use Rattle.ckpt_step.specs.Grounds.{AreLedTo, AreRoots, StandsOn, number_of}
use Rattle.ckpt_step.specs.Rooms.{known_in}
use Rattle.ckpt_step.specs.Takes.{Fallen, IsWholeOf, NotTaken, Taken, Takes, WhyNot, begun}
use Rattle.engine_store.specs.declared.eviction.Clock.{Clock}
use Rattle.engine_store.specs.declared.frames.Frames.{Frames}
use Rattle.engine_store.specs.declared.progress.Underway.{Underway}
use Rattle.engine_store.specs.declared.store.Store.{Store}
use Rattle.engine_store.specs.Answers.{CheckpointTakes}
use Rattle.engine_store.specs.Devices.{ArePartedOn, Installed, IsLater, IsNumberOf, device_of, may_open_to}
use Rattle.engine_store.specs.Held.{Checkpoints, CheckpointsOn, IsGrounded, IsHeldIn}
use Rattle.engine_store.specs.Images.{OpensToAny, OpensToLast, OpensToOne}
use Rattle.engine_store.specs.Running.{RunsOver}
use Rattle.engine_store.specs.Relieves.{IsRelieved, LetsGo}
use Rattle.engine_store.proofs.Begun.{valid_begun}
use Rattle.engine_store.proofs.Contents.{number_read, numbered, still_reads}
use Rattle.engine_store.proofs.CutShelves.{cut, cut_past, follows_cut, kept_cut, stands_cut}
use Rattle.engine_store.proofs.NoLives.{none_on}
use Rattle.engine_store.proofs.OtherRecords.{held_kept}
use Rattle.engine_store.proofs.Installing.{any_last, any_more, any_one, last_opens, one_last, one_more, past_later, past_more, pending_last, stays_more, stays_on}
use Rattle.engine_store.proofs.UnderWayStill.{none_runs, runs_none}

-- ---- of an engine that is up

module _ {D : Type 0} (g : Ghosts D) (start_disk before after : D)
    (counts : g.moment before ≤ g.moment after → (c : List ℕ) → g.may_leave after c → g.left_since after (g.moment before) c) (only : (c : List ℕ) → g.left_since after (g.moment after) c → g.may_leave after c)
    (image : g.may_leave before (g.seen before)) (s s' : Store) (w : World) (first : Completed) (made : List Installed) (held : IsHeldIn g start_disk s before w first made)
    (grounded : IsGrounded (g.seen before) (g.may_leave before) s w (may_open_to (first ∷ []) made)) where
  abbrev Old : List ℕ → Type 0
  Old = IsOld (g.may_leave before) grounded.old

  abbrev KeptAll : Type 0
  KeptAll = LeavesOnly g before after Old

  old_opens : (c : List ℕ) → Old c → OpensToAny (may_open_to (first ∷ []) made) c
  old_opens c (inl was) = held.images c was
  old_opens c (inr still) = (grounded.one.0, grounded.one.1, (content_was grounded.old, still_reads grounded.old c still, grounded.one.2))

  old_now : KeptAll → (c : List ℕ) → g.may_leave after c → Old c
  old_now kept c left = kept.each c (counts kept.later c left)

  last_on : KeptAll → OpensToLast (g.may_leave before) first w.machine.completed made → OpensToLast (g.may_leave after) first w.machine.completed made
  last_on kept (inl (content, each, opens)) = inl (content, ((λ c left. reads c (old_now kept c left)), each.1), opens)
    where
      same : content ≡ content_was grounded.old
      same = one_content (g.seen before) content (content_was grounded.old) (each.0 (g.seen before) image) (still_reads grounded.old (g.seen before) grounded.on.stands.seen_has)

      reads : (c : List ℕ) → Old c → Reads c content
      reads c (inl was) = each.0 c was
      reads c (inr still) = subst (λ (x : Content). Reads c x) (sym same) (still_reads grounded.old c still)
  last_on kept (inr (pending, there, each)) = inr (pending, there, λ c left. old_opens c (old_now kept c left))

  -- nothing was installed
  pub kept_held : (next : World) → Stands s'.engine next → KeepsThese next s'.ground.kept → ((id : ℕ) → s'.engine.hub.dir.next ≤ id → next.shelf id ≡ []) → RunsOver s'.ground s'.running next.machine → next.machine.completed ≡ w.machine.completed → KeptAll
      → (next.machine.fault ≡ None → StandsOn (g.seen after) (g.may_leave after) s'.engine.hub s'.ground grounded.old × Follows grounded.old s'.engine.hub s'.ground next × AreLivesOn (g.seen after) s'.engine.hub s'.ground next) → IsHeldIn g start_disk s' after next first made
  kept_held next stands keeps bare runs same kept on = record {
    stands = stands;
    running = runs;
    kept = keeps;
    bare = bare;
    on = λ up. record { old = grounded.old; on = (on up).0; follows = (on up).1; since = (on up).2; opens = subst (λ (k : Completed). OpensAs (content_was grounded.old) k) (sym same) grounded.opens; one = grounded.one };
    images = λ c left. old_opens c (old_now kept c left);
    last = subst (λ (k : Completed). OpensToLast (g.may_leave after) first k made) (sym same) (last_on kept held.last);
    ever = joined g start_disk before after (OpensToOne first made) Old held.ever kept (λ c old. any_one first made c (old_opens c old));
    stays = stays_on (g.left_since before) (g.left_since after) (g.moment before) Old kept.before (first ∷ []) made old_opens held.past held.stays;
    past = past_later made (g.moment before) (g.moment after) kept.later held.past;
  }

  -- one checkpoint more was installed, or was being installed
  module _ (new : Stored) (own : Installed) (opens : (c : List ℕ) → IsOn c new → Opens c own.checkpoint) (left : LeavesOnly g before after (IsEither (g.may_leave before) grounded.old new)) where
    either_opens : (c : List ℕ) → IsEither (g.may_leave before) grounded.old new c → OpensToAny (may_open_to (first ∷ []) made) c ⊎ Opens c own.checkpoint
    either_opens c (inl kept) = inl (old_opens c kept)
    either_opens c (inr on) = inr (opens c on)

    one_of : (c : List ℕ) → OpensToAny (may_open_to (first ∷ []) made) c ⊎ Opens c own.checkpoint → OpensToOne first (made ++ own ∷ []) c
    one_of c (inl any) = one_more first made own c (any_one first made c any)
    one_of c (inr is) = one_last first made own c is

    any_of : (r : Refusal) → own.refused ≡ Some r → (c : List ℕ) → OpensToAny (may_open_to (first ∷ []) made) c ⊎ Opens c own.checkpoint → OpensToAny (may_open_to (first ∷ []) (made ++ own ∷ [])) c
    any_of r stopped c (inl any) = any_more (first ∷ []) made own r c stopped any
    any_of r stopped c (inr is) = any_last (first ∷ []) made own c is

    ever_more : LeavesOnly g start_disk after (OpensToOne first (made ++ own ∷ []))
    ever_more = joined g start_disk before after (OpensToOne first (made ++ own ∷ [])) (IsEither (g.may_leave before) grounded.old new)
        (widened g start_disk before (OpensToOne first made) (OpensToOne first (made ++ own ∷ [])) held.ever (λ c one. one_more first made own c one))
        left (λ c either. one_of c (either_opens c either))

    -- each image has it
    pub done_held : (next : World) → Stands s'.engine next → KeepsThese next s'.ground.kept → ((id : ℕ) → s'.engine.hub.dir.next ≤ id → next.shelf id ≡ []) → RunsOver s'.ground s'.running next.machine → own.at ≡ g.moment after → next.machine.completed ≡ own.checkpoint → Each (g.may_leave after) (λ c. IsOn c new)
        → StandsOn (g.seen after) (g.may_leave after) s'.engine.hub s'.ground (Some new) → Follows (Some new) s'.engine.hub s'.ground next → AreLivesOn (g.seen after) s'.engine.hub s'.ground next → OpensAs (content_of new) own.checkpoint → IsHeldIn g start_disk s' after next first (made ++ own ∷ [])
    done_held next stands keeps bare runs now same each on follows since new_opens = record {
      stands = stands;
      running = runs;
      kept = keeps;
      bare = bare;
      on = λ up. record {
        old = Some new;
        on = on;
        follows = follows;
        since = since;
        opens = subst (λ (k : Completed). OpensAs (content_of new) k) (sym same) new_opens;
        one = (own.checkpoint, last_opens (first ∷ []) made own, new_opens);
      };
      images = λ c image. any_last (first ∷ []) made own c (opens c (each c image));
      last = inl (content_of new, ((λ c image. inr (new, each c image, refl)), new_opens.layered), subst (λ (k : Completed). OpensAs (content_of new) k) (sym same) new_opens);
      ever = ever_more;
      stays = stays_more (g.left_since before) (g.left_since after) (g.moment before) (IsEither (g.may_leave before) grounded.old new) left.before (first ∷ []) made own either_opens
          (λ told c since. opens c (each c (only c (subst (λ (t : ℕ). g.left_since after t c) now since)))) held.past held.stays;
      past = past_more made own (g.moment before) (g.moment after) left.later (omega (arith, now)) held.past;
    }

    -- a fault at its gate stopped it
    pub gate_held : (next : World) → Stands s'.engine next → KeepsThese next s'.ground.kept → ((id : ℕ) → s'.engine.hub.dir.next ≤ id → next.shelf id ≡ []) → RunsOver s'.ground s'.running next.machine → own.at ≡ g.moment after → own.refused ≡ Some DiskFault → (next.machine.fault ≡ None → ⊥) → IsHeldIn g start_disk s' after next first (made ++ own ∷ [])
    gate_held next stands keeps bare runs now stopped down =
        let images : Each (g.may_leave after) (OpensToAny (may_open_to (first ∷ []) (made ++ own ∷ []))) = λ c image. any_of DiskFault stopped c (either_opens c (left.each c (counts left.later c image))) in
        record {
          stands = stands;
          running = runs;
          kept = keeps;
          bare = bare;
          on = λ up. absurd (down up);
          images = images;
          last = inr (own.checkpoint, pending_last made own stopped, images);
          ever = ever_more;
          stays = stays_more (g.left_since before) (g.left_since after) (g.moment before) (IsEither (g.may_leave before) grounded.old new) left.before (first ∷ []) made own either_opens
              (λ told c since. absurd (not_done told)) held.past held.stays;
          past = past_more made own (g.moment before) (g.moment after) left.later (omega (arith, now)) held.past;
        }
      where
        not_done : own.refused ≡ None → ⊥
        not_done told = let e : Some DiskFault ≡ None = sym stopped ∙ told in cc

  -- ---- by what the checkpoint answers, where none runs

  module _ (idle : w.machine.checkpoint ≡ None) (none_now : s'.running ≡ None) (kept_same : s'.ground.kept ≡ s.ground.kept) (count : g.faults before ≤ g.faults after) (room : g.capacity after ≡ g.capacity before) (law : ReadFinishesOpen) (downs : DownsGo) where
    abbrev m : Machine
    m = w.machine

    -- what is kept is what it was
    keeps_still : KeepsThese w s'.ground.kept
    keeps_still = subst (λ (l : Lists). KeepsThese w l) (sym kept_same) held.kept

    -- none runs then either
    idle_still : (n : Machine) → n.checkpoint ≡ None → RunsOver s'.ground s'.running n
    idle_still n free = none_runs s'.ground s'.running n none_now free

    abbrev number : ℕ
    number = number_of grounded.old

    abbrev Gives : Result (Unit {0}) Refusal → Type 0
    Gives result = CheckpointsOn g start_disk w first made s s' before after w.shelf result

    is_later : g.moment before ≤ g.moment after → IsLater (device_of g before) (device_of g after)
    is_later le = record { faults = count; moment = le }

    counted : IsNumberOf (g.seen before) number
    counted = numbered (g.seen before) grounded.old grounded.on.stands.seen_has

    -- the leaves of the engine, with what it wrote, part the machine's tables
    parted : ArePartedOn (g.seen before) m s.ground.lives s.engine.hub.dir.leaves (known_in s.ground.parts)
    parted = record {
      old = grounded.old;
      has = grounded.on.stands.seen_has;
      places = s.ground.trees.items;
      roots = subst (λ (l : List Table). AreRoots l s.ground.lives s.engine.hub.dir.leaves (known_in s.ground.parts) s.ground.trees.items grounded.old) known grounded.on.roots;
      begun = subst (λ (l : List Table). TablesBegun l s.engine.hub.dir.leaves) known held.stands.begun;
      dir = s.engine.hub.dir;
      leaves_are = refl;
      since = grounded.on.since;
      led = subst (λ (l : List Table). AreLedTo l s.ground.lives s.engine.hub.dir.leaves) known grounded.on.led;
      shelf = w.shelf;
      on = grounded.since;
    }
      where
        known : s.engine.hub.tables.tables ≡ reverse (tables m.history)
        known = sym (reverse-reverse s.engine.hub.tables.tables) ∙ ap (λ (l : List Table). reverse l) held.stands.made

    abbrev installed : Option Refusal → Installed
    installed refused = record { checkpoint = (checkpointed m).completed; refused = refused; at = g.moment after }

    module _ (new : Stored) (checkpoint : IsWholeOf m number new) where
      new_opens : (c : List ℕ) → IsOn c new → OpensAs (content_of new) (checkpointed m).completed
      new_opens c on = law c (after_event m CheckpointStart) (begun m) number new (valid_begun m held.stands.valid) refl on checkpoint

      opens_new : (c : List ℕ) → IsOn c new → Opens c (checkpointed m).completed
      opens_new c on = (content_of new, inr (new, on, refl), new_opens c on)

    -- it was taken of this engine, and then leaves may have left their frames
    module _ (stand : Ground) (e : Engine) (t : Taken g grounded.old w s.ground stand s.engine e before after) where
      abbrev later : World
      later = record w { machine = checkpointed m }

      pub taken_on : StandsOn (g.seen after) (g.may_leave after) e.hub stand (Some t.new)
      taken_on = subst (λ (x : Engine). StandsOn (g.seen after) (g.may_leave after) x.hub stand (Some t.new)) (sym t.same) t.on

      pub taken_follows : Follows (Some t.new) e.hub stand later
      taken_follows = subst (λ (x : Engine). Follows (Some t.new) x.hub stand later) (sym t.same) t.follows

      -- with this on the shelf
      module _ (shelf : ℕ → List Row) (stands : Stands s'.engine (record w { machine = checkpointed m; shelf = shelf })) (keeps : KeepsThese (record w { machine = checkpointed m; shelf = shelf }) s'.ground.kept) (bare : (id : ℕ) → s'.engine.hub.dir.next ≤ id → shelf id ≡ [])
          (on : StandsOn (g.seen after) (g.may_leave after) s'.engine.hub s'.ground (Some t.new)) (follows : Follows (Some t.new) s'.engine.hub s'.ground (record w { machine = checkpointed m; shelf = shelf })) (none_left : s'.ground.lives ≡ []) where
        pub taken_with : CheckpointsOn g start_disk w first made s s' before after shelf (Ok tt)
        taken_with = record {
          next = checkpointed m;
          now = made ++ installed None ∷ [];
          behind = record { later = is_later t.leaves.later; capacity = room; has = (t.new, number, counted, t.is, t.on.stands.seen_has) };
          takes = inr (number, Ok tt, counted, t.may, record { storing = StoredWhole; takes = (s.engine.hub.dir.leaves, known_in s.ground.parts, parted, t.had_room); told = refl; leaves = refl });
          installs = refl;
          held = held_kept g start_disk after s' (record w { machine = checkpointed m; shelf = shelf }) first (made ++ installed None ∷ []) (done_held t.new (installed None) (opens_new t.new t.is) t.leaves (record w { machine = checkpointed m; shelf = shelf }) stands keeps bare (idle_still (checkpointed m) refl) refl refl t.each
              on follows (none_on (g.seen after) s'.engine.hub s'.ground (record w { machine = checkpointed m; shelf = shelf }) none_left) (new_opens t.new t.is (g.seen after) t.on.stands.seen_has));
          none = λ was. none_left;
        }

      -- those that left have new ids, from which on the shelf had nothing
      pub taken : (r : IsRelieved (g.seen after) (g.may_leave after) (Some t.new) s.engine.hub.dir.next later s') → CheckpointsOn g start_disk w first made s s' before after (cut s'.engine.hub.dir.next r.shelf) (Ok tt)
      taken r =
          let relieved : World = record w { machine = checkpointed m; shelf = r.shelf } in
          let n = s'.engine.hub.dir.next in
          taken_with (cut n r.shelf) (stands_cut s'.engine relieved r.stands)
          (subst (λ (l : Lists). KeepsThese (record w { machine = checkpointed m; shelf = cut n r.shelf }) l) (sym kept_same) (kept_cut s.engine w s.ground.kept held.stands held.kept held.bare r.shelf n r.ids r.same))
          (λ id late. cut_past n r.shelf id late) r.on (follows_cut (Some t.new) s'.engine.hub s'.ground relieved r.stands.dir r.follows) r.none

    refused_by : (r : Refusal) → WhyNot (Rose (g.faults before) (g.faults after)) (g.seen before) (g.capacity before) s.ground.lives s.engine.hub.dir.leaves (known_in s.ground.parts) m number r → CheckpointTakes s.ground.lives (device_of g before) (device_of g after) m (Refused r) m
    refused_by r (inl barred) = inr (number, Err r, counted, barred, (refl, refl))
    refused_by r (inr (inl none)) = inl (cc, refl)
    refused_by r (inr (inr (may, inl (is, full)))) = inr (number, Ok tt, counted, may, record { storing = NoPlace; takes = (s.engine.hub.dir.leaves, known_in s.ground.parts, parted, full); told = cc; leaves = refl })
    refused_by r (inr (inr (may, inr (is, rose)))) = inr (number, Ok tt, counted, may, record { storing = ReadFailed; takes = rose; told = cc; leaves = refl })

    -- of leaves that were written since there are those that there were
    abbrev KeepsLives : Type 0
    KeepsLives = s'.ground.lives ≡ s.ground.lives

    not_taken : (r : Refusal) → KeepsLives → NotTaken g grounded.old w s.ground s'.ground s.engine s'.engine before after r → Gives (Err r)
    not_taken r lives n = record {
      next = m;
      now = made;
      behind = record { later = is_later n.leaves.later; capacity = room; has = λ up. (grounded.old, grounded.on.stands.seen_has, n.on.stands.seen_has) };
      takes = refused_by r n.why;
      installs = inl refl;
      held = held_kept g start_disk after s' w first made (kept_held w (subst (λ (e : Engine). Stands e w) (sym n.same) held.stands) keeps_still (λ id late. held.bare id (subst (λ (e : Engine). e.hub.dir.next ≤ id) n.same late)) (idle_still w.machine idle) refl n.leaves
          (λ up. (
            subst (λ (e : Engine). StandsOn (g.seen after) (g.may_leave after) e.hub s'.ground grounded.old) (sym n.same) n.on,
            subst (λ (e : Engine). Follows grounded.old e.hub s'.ground w) (sym n.same) n.follows,
            subst (λ (e : Engine). AreLivesOn (g.seen after) e.hub s'.ground w) (sym n.same) n.since,
          )));
      none = λ none. lives ∙ none;
    }

    module _ (fault : Fault) (lives : KeepsLives) (may : MayStart m number (Ok tt)) (rose : Rose (g.faults before) (g.faults after)) (is : s'.engine ≡ with_fault s.engine fault) where
      abbrev down : Machine
      down = after_event m (GoDown fault)

      fell_stands : Stands s'.engine (record w { machine = down })
      fell_stands = subst (λ (e : Engine). Stands e (record w { machine = down })) (sym is) (downs s.engine w fault held.stands)

      fell_takes : CheckpointTakes s.ground.lives (device_of g before) (device_of g after) m (Refused DiskFault) down
      fell_takes = inr (number, Ok tt, counted, may, record { storing = WriteFailed fault; takes = rose; told = refl; leaves = refl })

      fell_bare : (id : ℕ) → s'.engine.hub.dir.next ≤ id → w.shelf id ≡ []
      fell_bare id late = held.bare id (subst (λ (e : Engine). e.hub.dir.next ≤ id) is late)

      not_up : down.fault ≡ None → ⊥
      not_up up = let e : Some fault ≡ None = up in cc

      fell_before : KeptAll → Gives (Err DiskFault)
      fell_before kept = record {
        next = down;
        now = made;
        behind = record { later = is_later kept.later; capacity = room; has = λ up. absurd (not_up up) };
        takes = fell_takes;
        installs = inl refl;
        held = held_kept g start_disk after s' (record w { machine = down }) first made (kept_held (record w { machine = down }) fell_stands keeps_still fell_bare (idle_still down idle) refl kept (λ up. absurd (not_up up)));
        none = λ none. lives ∙ none;
      }

      fell_at : (new : Stored) → IsWholeOf m number new → LeavesOnly g before after (IsEither (g.may_leave before) grounded.old new) → Gives (Err DiskFault)
      fell_at new checkpoint left = record {
        next = down;
        now = made ++ installed (Some DiskFault) ∷ [];
        behind = record { later = is_later left.later; capacity = room; has = λ up. absurd (not_up up) };
        takes = fell_takes;
        installs = inr (refl, (fault, refl), refl);
        held = held_kept g start_disk after s' (record w { machine = down }) first (made ++ installed (Some DiskFault) ∷ []) (gate_held new (installed (Some DiskFault)) (opens_new new checkpoint) left (record w { machine = down }) fell_stands keeps_still fell_bare (idle_still down idle) refl refl not_up);
        none = λ none. lives ∙ none;
      }

    fallen : (r : Refusal) → KeepsLives → Fallen g grounded.old w s.ground s'.ground s.engine s'.engine before after r → Gives (Err r)
    fallen r lives f = subst (λ (x : Refusal). Gives (Err x)) (sym f.is) (elim f.leaves [
      | inl kept ↦ fell_before f.fault lives f.may f.rose f.down kept
      | inr (new, checkpoint, left) ↦ fell_at f.fault lives f.may f.rose f.down new checkpoint left
    ])

    pub by_takes : (result : Result (Unit {0}) Refusal) → OnErr result KeepsLives → Takes g grounded.old w s.ground s'.ground s.engine s'.engine before after result → Gives result
    by_takes (Ok end) lives t =
        taken_with s'.ground s'.engine t w.shelf t.stands keeps_still (λ id late. held.bare id (subst (λ (e : Engine). e.hub.dir.next ≤ id) t.same late)) (taken_on s'.ground s'.engine t) (taken_follows s'.ground s'.engine t) t.none
    by_takes (Err r) lives (inl n) = not_taken r lives n
    by_takes (Err r) lives (inr f) = fallen r lives f

-- ---- of one that is down

module _ {D : Type 0} (g : Ghosts D) (start_disk disk : D) (image : g.may_leave disk (g.seen disk)) (s : Store) (w : World) (first : Completed) (made : List Installed) (held : IsHeldIn g start_disk s disk w first made) where
  -- the number of the last checkpoint that was done
  pub number_held : (n : ℕ) × IsNumberOf (g.seen disk) n
  number_held = let any = held.images (g.seen disk) image in number_read (g.seen disk) any.2.0 any.2.1

  -- how many frames there are, and which leaves go out, says nothing of what is held
  pub clock_held : (n : Frames) (k : Clock) → IsHeldIn g start_disk (record s { frames = n; clock = k }) disk w first made
  clock_held n k = record {
    stands = held.stands;
    running = held.running;
    kept = held.kept;
    bare = held.bare;
    on = λ up. let x = held.on up in record { old = x.old; on = x.on; follows = x.follows; since = x.since; opens = x.opens; one = x.one };
    images = held.images;
    last = held.last;
    ever = held.ever;
    stays = held.stays;
    past = held.past;
  }

  refused_down : (n : Frames) (k : Clock) (fault : Fault) → w.machine.fault ≡ Some fault → CheckpointsOn g start_disk w first made s (record s { frames = n; clock = k }) disk disk w.shelf (Err (Panic fault))
  refused_down n k fault down = record {
    next = w.machine;
    now = made;
    behind = record { later = record { faults = omega arith; moment = omega arith }; capacity = refl; has = λ up. absurd (not_both up) };
    takes = inr (number_held.0, Err (Panic fault), number_held.1, decided-down w.machine 0 (StartCall number_held.0) fault down refl, (refl, refl));
    installs = inl refl;
    held = held_kept g start_disk disk (record s { frames = n; clock = k }) w first made (clock_held n k);
    none = λ none. none;
  }
    where
      not_both : w.machine.fault ≡ None → ⊥
      not_both up = let e : None ≡ Some fault = sym up ∙ down in cc

  pub by_down : (s' : Store) (after : D) (result : Result (Unit {0}) Refusal) (fault : Fault) → w.machine.fault ≡ Some fault → result ≡ Err (Panic fault) → s' ≡ record s { frames = s'.frames; clock = s'.clock } → after ≡ disk
      → CheckpointsOn g start_disk w first made s s' disk after w.shelf result
  by_down s' after result fault down is same still =
      subst (λ (d : D). CheckpointsOn g start_disk w first made s s' disk d w.shelf result) (sym still)
      (subst (λ (x : Store). CheckpointsOn g start_disk w first made s x disk disk w.shelf result) (sym same)
      (subst (λ (r : Result (Unit {0}) Refusal). CheckpointsOn g start_disk w first made s (record s { frames = s'.frames; clock = s'.clock }) disk disk w.shelf r) (sym is)
      (refused_down s'.frames s'.clock fault down)))

-- ---- of either

-- but for how many frames there are, and which leaves go out
pub same_store : (s s' : Store) → s'.engine ≡ s.engine → s'.ground ≡ s.ground → s'.running ≡ s.running → s' ≡ record s { frames = s'.frames; clock = s'.clock }
same_store s s' engine place running =
    ap (λ (e : Engine). let x : Store = record s' { engine = e } in x) engine
    ∙ ap (λ (p : Ground). let x : Store = record s' { engine = s.engine; ground = p } in x) place
    ∙ ap (λ (o : Option Underway). let x : Store = record s' { engine = s.engine; ground = s.ground; running = o } in x) running

module _ {D : Type 0} (g : Ghosts D) (start_disk before after : D)
    (counts : g.moment before ≤ g.moment after → (c : List ℕ) → g.may_leave after c → g.left_since after (g.moment before) c) (only : (c : List ℕ) → g.left_since after (g.moment after) c → g.may_leave after c)
    (image : g.may_leave before (g.seen before)) (s s' : Store) (w : World) (first : Completed) (made : List Installed) (held : IsHeldIn g start_disk s before w first made) (free : s.running ≡ None) (none : s'.running ≡ None)
    (count : g.faults before ≤ g.faults after) (room : g.capacity after ≡ g.capacity before) (law : ReadFinishesOpen) (downs : DownsGo) (result : Result (Unit {0}) Refusal)
    (takes : (old : Option Stored) → StandsOn (g.seen before) (g.may_leave before) s.engine.hub s.ground old → Follows old s.engine.hub s.ground w → AreLivesOn (g.seen before) s.engine.hub s.ground w → Takes g old w s.ground s'.ground s.engine s'.engine before after result)
    (down : (fault : Fault) → s.engine.hub.fault ≡ Some fault → (result ≡ Err (Panic fault)) × (s'.engine ≡ s.engine) × (s'.ground ≡ s.ground) × (after ≡ before)) (lives : OnErr result (s'.ground.lives ≡ s.ground.lives)) (kept : s'.ground.kept ≡ s.ground.kept) where
  by_fault : (f : Option Fault) → w.machine.fault ≡ f → CheckpointsOn g start_disk w first made s s' before after w.shelf result
  by_fault None up =
      let on = held.on up in
      by_takes g start_disk before after counts only image s s' w first made held on (runs_none s.ground s.running w.machine free held.running) none kept count room law downs result lives (takes on.old on.on on.follows on.since)
  by_fault (Some fault) is =
      let told = down fault (held.stands.fault ∙ is) in
      by_down g start_disk before image s w first made held s' after result fault is told.0 (same_store s s' told.1 told.2 (none ∙ sym free)) told.3

  pub checkpoints_by : Checkpoints g start_disk w first made s s' before after result
  checkpoints_by = (w.shelf, by_fault w.machine.fault refl)

-- ---- of one behind which leaves left their frames

-- the checkpoint has still the newest version of each key of the machine that took it
newest_taken : (m : Machine) (s : Stored) → HasNewest (Some s) m → HasNewest (Some s) (checkpointed m)
newest_taken m s newest t place tree has = let rows = newest t place tree has in record { fit = rows.fit; newest = rows.newest }

-- stand, e: the ground and the engine when it was taken
module _ {D : Type 0} (g : Ghosts D) (start_disk before after : D)
    (counts : g.moment before ≤ g.moment after → (c : List ℕ) → g.may_leave after c → g.left_since after (g.moment before) c) (only : (c : List ℕ) → g.left_since after (g.moment after) c → g.may_leave after c)
    (image : g.may_leave before (g.seen before)) (s s' : Store) (w : World) (first : Completed) (made : List Installed) (held : IsHeldIn g start_disk s before w first made) (free : s.running ≡ None) (none : s'.running ≡ None)
    (count : g.faults before ≤ g.faults after) (room : g.capacity after ≡ g.capacity before) (law : ReadFinishesOpen) (downs : DownsGo) (have : CheckpointsHaveNewest) (stand : Ground) (e : Engine)
    (takes : (old : Option Stored) → StandsOn (g.seen before) (g.may_leave before) s.engine.hub s.ground old → Follows old s.engine.hub s.ground w → AreLivesOn (g.seen before) s.engine.hub s.ground w → Taken g old w s.ground stand s.engine e before after)
    (up : (fault : Fault) → s.engine.hub.fault ≡ Some fault → ⊥) (o : Option Underway) (n : Frames) (k : Clock) (goes : LetsGo g (record { engine = e; ground = stand; running = o; frames = n; clock = k }) s') (kept : stand.kept ≡ s.ground.kept) where
  -- the engine that was checkpointed is the same
  of_first : {seen : List ℕ} {images : List ℕ → Type 0} {old : Option Stored} {v : World} → e ≡ s.engine → IsRelieved seen images old e.hub.dir.next v s' → IsRelieved seen images old s.engine.hub.dir.next v s'
  of_first {seen} {images} {old} {v} same r = subst (λ (x : Engine). IsRelieved seen images old x.hub.dir.next v s') same r

  by_up : (f : Option Fault) → w.machine.fault ≡ f → Checkpoints g start_disk w first made s s' before after (Ok tt)
  by_up (Some fault) is = absurd (up fault (held.stands.fault ∙ is))
  by_up None is =
      let on = held.on is in
      let t = takes on.old on.on on.follows on.since in
      let r = of_first t.same (goes.relieves after (Some t.new) (record w { machine = checkpointed w.machine }) t.stands refl
      (taken_on g start_disk before after counts only image s s' w first made held on (runs_none s.ground s.running w.machine free held.running) none (goes.kept ∙ kept) count room law downs stand e t)
      (taken_follows g start_disk before after counts only image s s' w first made held on (runs_none s.ground s.running w.machine free held.running) none (goes.kept ∙ kept) count room law downs stand e t)
      t.none
      (newest_taken w.machine t.new (have w.machine (number_of on.old) t.new held.stands.valid t.is))) in
      (cut s'.engine.hub.dir.next r.shelf, taken g start_disk before after counts only image s s' w first made held on (runs_none s.ground s.running w.machine free held.running) none (goes.kept ∙ kept) count room law downs stand e t r)

  pub relieved_by : Checkpoints g start_disk w first made s s' before after (Ok tt)
  relieved_by = by_up w.machine.fault refl
