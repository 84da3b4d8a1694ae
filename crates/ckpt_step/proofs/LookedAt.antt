-- A checkpoint on a disk that was only looked at before.
use Rattle.std.specs.Prelude.{◌≡◌, ℕ, ◌≤◌, List, length, Option}
use Rattle.std.proofs.Common.{inl, inr, sym, subst}
use Rattle.disk_model.specs.Crash.{LeavesOnly, Looked}
use Rattle.disk_model.specs.Disk.{NoMore}
use Rattle.disk_model.specs.declared.disk.Disk.{Ghosts}
use Rattle.disk_model.proofs.Crash.{joined, looked_only, widened}
use Rattle.extent_list.specs.Space.{end_of}
use Rattle.wt_code.specs.declared.store_error.StoreError.{StoreError}
use Rattle.wt_code.specs.declared.store_error.StoreError.TheVariants.{Read}
use Rattle.stored.specs.Stored.{Stored}
use Rattle.checkpoint_core.specs.Stands.{HasStill}
use Rattle.checkpoint_core.specs.Finishes.{IsOld, IsEither}
use Rattle.call_steps.specs.declared.hub.Hub.{Hub}
use Rattle.ckpt_step.specs.declared.ground.Ground.{Ground}
use Rattle.ckpt_step.specs.Floors.{AreLivesOn, Follows}
use Rattle.ckpt_step.specs.Grounds.{StandsOn}
use Rattle.ckpt_step.specs.Moments.{Moment}
use Rattle.ckpt_step.specs.Rooms.{known_in}
use Rattle.ckpt_step.specs.Runs.{LeavesOne, NewStands, OldStands}
use Rattle.ckpt_step.specs.Sizes.{HasRoomFor, IsFullFor, KeepsLeaves}

-- the ground is that of the same checkpoint
pub stands_looked : (bytes seen : List ℕ) (was images : List ℕ → Type 0) (hub : Hub) (g : Ground) (old : Option Stored) → seen ≡ bytes → NoMore was images → StandsOn bytes was hub g old → StandsOn seen images hub g old
stands_looked bytes seen was images hub g old same fewer on = record {
  stands = record {
    seen_has = subst (λ (l : List ℕ). HasStill old l) (sym same) on.stands.seen_has;
    images_have = λ synced c left. on.stands.images_have synced c (fewer c left);
    in_use = on.stands.in_use;
  };
  number = on.number;
  slot = on.slot;
  cells = on.cells;
  units = on.units;
  idle = on.idle;
  long = subst (λ (l : List ℕ). 8192 ≤ length l) (sym same) on.long;
  within = subst (λ (l : List ℕ). end_of g.place.blocks.space ≤ length l) (sym same) on.within;
  roots = on.roots;
  history = on.history;
  written = on.written;
  since = on.since;
  led = on.led;
}

module _ {D : Type 0} (g : Ghosts D) (before mid : D) (looked : Looked g before mid) (only : (c : List ℕ) → g.left_since before (g.moment before) c → g.may_leave before c) (old : Option Stored) where
  only_old : LeavesOnly g before mid (IsOld (g.may_leave before) old)
  only_old = looked_only g before mid (IsOld (g.may_leave before) old) looked (λ c is. inl (only c is))

  old_before : (c : List ℕ) → IsOld (g.may_leave mid) old c → IsOld (g.may_leave before) old c
  old_before c (inl image) = inl (looked.images c image)
  old_before c (inr still) = inr still

  either_before : (new : Stored) (c : List ℕ) → IsEither (g.may_leave mid) old new c → IsEither (g.may_leave before) old new c
  either_before new c (inl is) = inl (old_before c is)
  either_before new c (inr on) = inr on

  keeps : (after : D) → LeavesOnly g mid after (IsOld (g.may_leave mid) old) → LeavesOnly g before after (IsOld (g.may_leave before) old)
  keeps after more = joined g before mid after _ _ only_old more old_before

  turns : (after : D) (new : Stored) → LeavesOnly g mid after (IsEither (g.may_leave mid) old new) → LeavesOnly g before after (IsEither (g.may_leave before) old new)
  turns after new more = joined g before mid after _ _ (widened g before mid _ _ only_old (λ c is. inl is)) more (either_before new)

  leaves_one : (n : Moment) (after : D) → LeavesOne g old n mid after → LeavesOne g old n before after
  leaves_one n after (inl kept) = inl (keeps after kept)
  leaves_one n after (inr (new, is, more)) = inr (new, is, turns after new more)

  module _ (n : Moment) (hub : Hub) (stand : Ground) where
    -- nothing was written
    pub not_begun : StandsOn (g.seen before) (g.may_leave before) hub stand old → Follows old hub stand n.world → AreLivesOn (g.seen before) hub stand n.world → OldStands g old n hub stand stand before mid Read
    not_begun on follows device = record {
      left = inl only_old;
      kept = λ safe. only_old;
      on = λ safe. stands_looked (g.seen before) (g.seen mid) (g.may_leave before) (g.may_leave mid) hub stand old looked.content looked.images on;
      follows = follows;
      since = λ safe. subst (λ (bytes : List ℕ). AreLivesOn bytes hub stand n.world) (sym looked.content) device;
      full = λ is. absurd (cc);
    }

    module _ (stand' : Ground) (after : D) where
      -- it was written then
      pub new_looked : NewStands g old n hub stand stand' mid after → NewStands g old n hub stand stand' before after
      new_looked wrote = record {
        new = wrote.new;
        is = wrote.is;
        left = turns after wrote.new wrote.left;
        each = wrote.each;
        on = wrote.on;
        follows = wrote.follows;
        since = wrote.since;
        others = wrote.others;
        had_room =
            subst (λ (k : ℕ). HasRoomFor (g.seen before) k stand.lives hub.dir.leaves (known_in stand.parts) n) looked.capacity
            (subst (λ (l : List ℕ). HasRoomFor l (g.capacity mid) stand.lives hub.dir.leaves (known_in stand.parts) n) looked.content wrote.had_room);
        kept = subst (λ (l : List ℕ). KeepsLeaves l hub.tables.tables hub.dir.leaves (known_in stand.parts) wrote.new stand'.trees.items (known_in stand'.parts)) looked.content wrote.kept;
      }

      -- it was not
      pub old_looked : (e : StoreError) → OldStands g old n hub stand stand' mid after e → OldStands g old n hub stand stand' before after e
      old_looked e wrote = record {
        left = leaves_one n after wrote.left;
        kept = λ safe. keeps after (wrote.kept safe);
        on = wrote.on;
        follows = wrote.follows;
        since = wrote.since;
        full = λ is.
            subst (λ (k : ℕ). IsFullFor (g.seen before) k stand.lives hub.dir.leaves (known_in stand.parts) n) looked.capacity
            (subst (λ (l : List ℕ). IsFullFor l (g.capacity mid) stand.lives hub.dir.leaves (known_in stand.parts) n) looked.content (wrote.full is));
      }
