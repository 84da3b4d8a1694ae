-- What holds between two calls goes on over a call of an actor, by which the disk is at most looked at.
use Rattle.std.proofs.Common.{◌≡◌, ◌∙◌, ◌≤◌, ℕ, List, [], ◌∷◌, length, Option, ap, refl, sym, subst, inl, inr, arith}
use Rattle.disk_model.specs.Crash.{Each, Looked}
use Rattle.disk_model.specs.Disk.{NoMore}
use Rattle.disk_model.specs.declared.disk.Disk.{Ghosts}
use Rattle.extent_list.specs.Space.{end_of}
use Rattle.catalog.specs.Known.{AreTables}
use Rattle.kv_model.specs.Content.{OpensAs}
use Rattle.kv_model.specs.Machine.{Completed}
use Rattle.row_page.specs.Rows.{Row}
use Rattle.stored.specs.Stored.{Stored}
use Rattle.checkpoint_core.specs.Stands.{HasStill}
use Rattle.device_leaf.specs.Closings.{content_was}
use Rattle.tree_dir.specs.Leaves.{IsDirectory}
use Rattle.call_steps.specs.declared.hub.Hub.{Hub}
use Rattle.engine_world.specs.Stands.{Stands}
use Rattle.engine_world.specs.Worlds.{World}
use Rattle.engine.specs.Directories.{HubGoesOn}
use Rattle.evict_step.specs.Kept.{KeepsThese}
use Rattle.ckpt_step.specs.declared.ground.Ground.{Ground}
use Rattle.ckpt_step.specs.Floors.{AreLivesOn, Follows, GoesOn}
use Rattle.ckpt_step.specs.Grounds.{StandsOn}
use Rattle.ckpt_step.proofs.Floors.{goes_same}
use Rattle.ckpt_step.proofs.KeptGround.{follows_records, stands_kept}
use Rattle.ckpt_step.proofs.Staying.{grounds_stay, no_fewer}
use Rattle.engine_store.specs.declared.store.Store.{Store}
use Rattle.engine_store.specs.Devices.{Installed, may_open_to}
use Rattle.engine_store.specs.Fetches.{IsBacked, IsReached}
use Rattle.engine_store.specs.Held.{IsHeld, IsHeldIn}
use Rattle.engine_store.specs.Images.{OpensToAny, OpensToLast}
use Rattle.engine_store.specs.Keeping.{IsSameButKept, with_kept}
use Rattle.engine_store.specs.Opened.{IsReady}
use Rattle.engine_store.proofs.Going.{Goes}
use Rattle.engine_store.proofs.Installing.{past_later, stays_on}
use Rattle.engine_store.proofs.UnderWayStill.{runs_kept, runs_on, runs_same}

pub stands_looked : (bytes seen : List ℕ) (was images : List ℕ → Type 0) (hub : Hub) (g : Ground) (old : Option Stored) → seen ≡ bytes → NoMore was images → StandsOn bytes was hub g old → StandsOn seen images hub g old
stands_looked bytes seen was images hub g old same fewer on = record {
  stands = record {
    seen_has = subst (λ (l : List ℕ). HasStill old l) (sym same) on.stands.seen_has;
    images_have = λ synced c left. on.stands.images_have synced c (fewer c left);
    in_use = on.stands.in_use;
  };
  number = on.number;
  slot = on.slot;
  cells = on.cells;
  units = on.units;
  idle = on.idle;
  long = subst (λ (l : List ℕ). 8192 ≤ length l) (sym same) on.long;
  within = subst (λ (l : List ℕ). end_of g.place.blocks.space ≤ length l) (sym same) on.within;
  roots = on.roots;
  history = on.history;
  written = on.written;
  since = on.since;
  led = on.led;
}

pub ready_goes : (s s' : Store) → HubGoesOn s.engine.hub s'.engine.hub → IsSameButKept s.ground s'.ground → IsReady s → IsReady s'
ready_goes s s' goes ground ready = ready_in (subst (λ (x : Ground). IsReady (record s' { ground = x })) (sym ground) (record {
  run = omega (arith, goes.run, ready.run);
  trees = omega (arith, ready.trees, no_fewer s.engine.hub.tables.tables s'.engine.hub.tables.tables goes.tables);
  low = ready.low;
}))
  where
    ready_in : IsReady (record s' { ground = s'.ground }) → IsReady s'
    ready_in is = record { run = is.run; trees = is.trees; low = is.low }

module _ {D : Type 0} (g : Ghosts D) (s s' : Store) (before after : D) (looked : Looked g before after) (goes : HubGoesOn s.engine.hub s'.engine.hub) (ground : IsSameButKept s.ground s'.ground) where
  -- what the ground is to one hub and world, it is to those that come of them
  record Moved (old : Option Stored) (v : World) : Type 0 where
    on : StandsOn (g.seen after) (g.may_leave after) s'.engine.hub s'.ground old
    follows : Follows old s'.engine.hub s'.ground v
    since : AreLivesOn (g.seen after) s'.engine.hub s'.ground v

  moved : (old : Option Stored) (w v : World) → IsDirectory s.engine.hub.dir → IsDirectory s'.engine.hub.dir → AreTables s'.engine.hub.tables → GoesOn w.machine v.machine → v.shelf ≡ w.shelf → StandsOn (g.seen before) (g.may_leave before) s.engine.hub s.ground old → Follows old s.engine.hub s.ground w → AreLivesOn (g.seen before) s.engine.hub s.ground w → Moved old v
  moved old w v was now are on shelf stands follows device =
      let stay = grounds_stay (g.seen before) (g.may_leave before) s.engine.hub s'.engine.hub s.ground old goes was now are stands in
      record {
        on = subst (λ (x : Ground). StandsOn (g.seen after) (g.may_leave after) s'.engine.hub x old) (sym ground)
            (stands_kept (g.seen after) (g.may_leave after) s'.engine.hub s.ground old s'.ground.kept (stands_looked (g.seen before) (g.seen after) (g.may_leave before) (g.may_leave after) s'.engine.hub s.ground old looked.content looked.images stay.0));
        follows = subst (λ (x : Ground). Follows old s'.engine.hub x v) (sym ground) (stay.1 w v on shelf follows);
        since = subst (λ (x : Ground). AreLivesOn (g.seen after) s'.engine.hub x v) (sym ground)
            (subst (λ (l : List ℕ). AreLivesOn l s'.engine.hub s.ground v) (sym looked.content) (stay.2 w v shelf device));
      }

  pub backed_goes : (w : World) → IsDirectory s.engine.hub.dir → IsDirectory s'.engine.hub.dir → AreTables s'.engine.hub.tables → IsBacked g s before w → IsBacked g s' after w
  backed_goes w was now are backed up =
      let b = backed (sym goes.fault ∙ up) in
      let m = moved b.0 w w was now are (goes_same w.machine) refl b.1 b.2 b.3 in
      (b.0, m.on, m.follows, m.since)

  -- ---- what is held

  pub held_goes : s'.running ≡ s.running → (start : D) (w later : World) (first : Completed) (made : List Installed) → Stands s'.engine later → KeepsThese later s'.ground.kept → Goes w later → IsHeldIn g start s before w first made → IsHeldIn g start s' after later first made
  held_goes same start w later first made stands kept on held = record {
    stands = stands;
    running = runs_same s'.ground s.running s'.running later.machine same (runs_kept s.ground s'.ground s.running later.machine ground (runs_on s.ground s.running w.machine later.machine held.stands.valid stands.valid on.keeps.checkpoint on.machine on.apart held.running));
    kept = kept;
    bare = λ id late. ap (λ (shelf : ℕ → List Row). shelf id) on.shelf ∙ held.bare id (let ids = goes.dir.ids in omega (arith, late, ids));
    on = λ up.
        let x = held.on (sym on.keeps.fault ∙ up) in
        let m = moved x.old w later held.stands.dir stands.dir stands.catalog on.machine on.shelf x.on x.follows x.since in
        record {
          old = x.old;
          on = m.on;
          follows = m.follows;
          since = m.since;
          opens = subst (λ (c : Completed). OpensAs (content_was x.old) c) (sym on.keeps.completed) x.opens;
          one = x.one;
        };
    images = images;
    last = subst (λ (c : Completed). OpensToLast (g.may_leave after) first c made) (sym on.keeps.completed) (last held.last);
    ever = record {
      later = omega (arith, held.ever.later, looked.later);
      each = λ c left. held.ever.each c (looked.since (g.moment start) c held.ever.later left);
      before = λ t c le left. held.ever.before t c le (looked.since t c (omega (arith, le, held.ever.later)) left);
    };
    stays = stays_on (g.left_since before) (g.left_since after) (g.moment before) (λ c. ⊥) (λ t c le left. inl (looked.since t c le left)) (first ∷ []) made (λ c none. absurd none) held.past held.stays;
    past = past_later made (g.moment before) (g.moment after) looked.later held.past;
  }
    where
      images : Each (g.may_leave after) (OpensToAny (may_open_to (first ∷ []) made))
      images c left = held.images c (looked.images c left)

      last : OpensToLast (g.may_leave before) first w.machine.completed made → OpensToLast (g.may_leave after) first w.machine.completed made
      last (inl (content, each, opens)) = inl (content, ((λ c left. each.0 c (looked.images c left)), each.1), opens)
      last (inr (pending, there, each)) = inr (pending, there, images)

-- ---- where a call begins

pub backed_held : {D : Type 0} (g : Ghosts D) (start disk : D) (s : Store) (w : World) (first : Completed) (made : List Installed) → IsHeld g start s disk w first made → IsBacked g s disk w
backed_held g start disk s w first made held up = let x = held.on (sym held.stands.fault ∙ up) in (x.old, x.on, follows_records x.old s.engine.hub s.ground (with_kept s.ground.kept w) w.records x.follows, x.since)

pub reached_first : {D : Type 0} (g : Ghosts D) (s : Store) (disk : D) (w : World) → Stands s.engine (with_kept s.ground.kept w) → IsBacked g s disk w → IsReached g s disk w w
reached_first g s disk w stands backed = record { backed = backed; stands = stands; fault = refl; shelf = refl }
