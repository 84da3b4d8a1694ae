-- A block to which no leaf leads any more is let go of: what was written since stays so, and so does what the next checkpoint stands on.
use Rattle.std.specs.Prelude.{◌≡◌, ℕ, true, List, Option, None, Some, refl}
use Rattle.std.specs.List.{Contains}
use Rattle.std.proofs.Common.{sym, ◌∙◌, ap}
use Rattle.engine_world.specs.Worlds.{World}
use Rattle.kv_model.specs.History.{Table}
use Rattle.kv_model.specs.Holds.{Member}
use Rattle.row_page.specs.Rows.{Row}
use Rattle.stamp.specs.declared.Name.{Name}
use Rattle.stored.specs.Stored.{Stored}
use Rattle.stored.specs.TableTree.{TableTree}
use Rattle.tree_dir.specs.declared.leaf.Leaf.{Leaf}
use Rattle.tree_dir.specs.Leaves.{Directory}
use Rattle.tree_open.specs.declared.place.TreePlace.{TreePlace}
use Rattle.ckpt_step.specs.Floors.{AreOnDevice, FollowsFrom}
use Rattle.ckpt_step.specs.Grounds.{AreLone, AreRoots, AreSince, AreWritten}
use Rattle.ckpt_step.specs.Holding.{gone_at}
use Rattle.ckpt_step.specs.Lives.{is_live}
use Rattle.ckpt_step.specs.Parts.{IsParted}
use Rattle.ckpt_step.specs.Rooms.{Written}
use Rattle.ckpt_step.specs.declared.lives.Lone.{Lone}
use Rattle.ckpt_step.proofs.Lones.{live_as, one_lone}
use Rattle.ckpt_step.proofs.LonesMore.{gone_distinct, gone_from, gone_keeps}
use Rattle.ckpt_step.proofs.OutBlocks.{lone_less}
use Rattle.ckpt_step.proofs.OutLives.{both_same, live_by}

module _ (old : Option Stored) (lives : List Lone) (lone : AreLone old lives) (x : Lone) (there : Member x lives) (leaves : List Leaf) (gone : (l : Leaf) → Contains leaves l → l.id ≡ x.leaf → l.entry.link.addr.offset ≡ x.addr.offset → ⊥) where
  abbrev fewer : List Lone
  fewer = gone_at lives x.addr.offset

  -- a block of a leaf that is there is another
  pub other : (y : Lone) (l : Leaf) → Member y lives → Contains leaves l → y.leaf ≡ l.id → y.addr.offset ≡ l.entry.link.addr.offset → y.addr.offset ≡ x.addr.offset → ⊥
  other y l mine c id here at = gone l c (sym id ∙ ap (λ (z : Lone). z.leaf) (one_lone lives y x lone.distinct mine there at)) (sym here ∙ at)

  pub live_fewer : (l : Leaf) → Contains leaves l → is_live fewer l ≡ is_live lives l
  live_fewer l c = both_same (is_live fewer l) (is_live lives l) up down
    where
      up : is_live fewer l ≡ true → is_live lives l ≡ true
      up live = let one = live_as fewer l live in live_by lives one.lone l lone.distinct (gone_from x.addr.offset lives one.lone one.there) one.at one.id

      down : is_live lives l ≡ true → is_live fewer l ≡ true
      down live =
          let one = live_as lives l live in
          live_by fewer one.lone l (gone_distinct x.addr.offset lives lone.distinct) (gone_keeps x.addr.offset lives one.lone one.there (other one.lone l one.there c one.id one.at)) one.at one.id

  parted_fewer : (table : ℕ) (written : Written) (place : TreePlace) (tree : TableTree) → IsParted lives leaves table written place tree → IsParted fewer leaves table written place tree
  parted_fewer table written place tree parted = record {
    joined = λ none. parted.joined (λ l c its. sym (live_fewer l c) ∙ none l c its);
    among = λ l c its dead e mine. parted.among l c its (sym (live_fewer l c) ∙ dead) e mine;
    parts = λ l c its dead. parted.parts l c its (sym (live_fewer l c) ∙ dead);
  }

  pub roots_fewer : (known : List Table) (written : Written) (places : List TreePlace) (o : Option Stored) → AreRoots known lives leaves written places o → AreRoots known fewer leaves written places o
  roots_fewer known written places None none = none
  roots_fewer known written places (Some s) roots = record {
    few = roots.few;
    count = roots.count;
    trees = λ i t place at stands. let tree = roots.trees i t place at stands in (tree.0, tree.1, parted_fewer t.number written place tree.0 tree.2);
  }

  pub follows_fewer : (o : Option Stored) (known : List Table) (written : Written) (places : List TreePlace) (floor : Name) (w : World) → FollowsFrom o known lives leaves written places floor w → FollowsFrom o known fewer leaves written places floor w
  follows_fewer o known written places floor w follows = record {
    respects = follows.respects;
    leaf = λ i t place tree l at stands has c its dead. follows.leaf i t place tree l at stands has c its (sym (live_fewer l c) ∙ dead);
    since = λ l c live. follows.since l c (sym (live_fewer l c) ∙ live);
  }

  pub device_fewer : (seen : List ℕ) (shelf : ℕ → List Row) → AreOnDevice seen lives leaves shelf → AreOnDevice seen fewer leaves shelf
  device_fewer seen shelf device l c live = device l c (sym (live_fewer l c) ∙ live)

-- of a directory
module _ (old : Option Stored) (lives : List Lone) (lone : AreLone old lives) (x : Lone) (there : Member x lives) (d : Directory) (gone : (l : Leaf) → Contains d.leaves l → l.id ≡ x.leaf → l.entry.link.addr.offset ≡ x.addr.offset → ⊥) (written : Written) where
  pub written_fewer : (known : List Table) (places : List TreePlace) → AreWritten known lives d written places → AreWritten known (gone_at lives x.addr.offset) d written places
  written_fewer known places were = record {
    later = were.later;
    made_since = λ i t l at none c its dead. were.made_since i t l at none c its (sym (live_fewer old lives lone x there d.leaves gone l c) ∙ dead);
  }

  pub since_fewer : AreSince old lives d written → AreSince old (gone_at lives x.addr.offset) d written
  since_fewer since = record {
    lone = lone_less old lives x.addr.offset lone;
    given = λ y mine. since.given y (gone_from x.addr.offset lives y mine);
    leaf = λ l c live.
        let one = since.leaf l c (sym (live_fewer old lives lone x there d.leaves gone l c) ∙ live) in
        record { there = gone_keeps x.addr.offset lives (record { leaf = l.id; addr = l.entry.link.addr }) one.there (λ at. other old lives lone x there d.leaves gone (record { leaf = l.id; addr = l.entry.link.addr }) l one.there c refl refl at); none = one.none };
    apart = λ l c live. since.apart l c (sym (live_fewer old lives lone x there d.leaves gone l c) ∙ live);
  }
