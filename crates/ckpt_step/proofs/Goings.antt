-- Trees that are captured one after the other, table by table.
use Rattle.std.specs.Prelude.{ℕ, List, Option, Some, [], refl, slice_get, ◌≡◌}
use Rattle.std.specs.List.{Contains}
use Rattle.std.proofs.Common.{inl, inr, subst, sym}
use Rattle.disk_model.specs.declared.disk.Disk.{Ghosts}
use Rattle.disk_model.proofs.Crash.{keeps_refl, started}
use Rattle.block_mgr.specs.Blocks.{Books, Has, HasLive}
use Rattle.device_layout.specs.declared.addr.Addr.{Addr}
use Rattle.kv_model.specs.Holds.{Member}
use Rattle.kv_model.specs.History.{Table}
use Rattle.catalog.specs.Known.{NumbersAscend}
use Rattle.stored.specs.Stored.{Stored}
use Rattle.tree_dir.specs.declared.leaf.Leaf.{Leaf}
use Rattle.tree_dir.specs.Leaves.{Directory, IsDirectory, leaves_of}
use Rattle.checkpoint_core.specs.Finishes.{IsOld}
use Rattle.tree_open.specs.declared.place.TreePlace.{TreePlace}
use Rattle.ckpt_step.specs.Goings.{Going, HasPartsAt, IsOfTable, MayGo}
use Rattle.ckpt_step.specs.Grounds.{AreRoots, AreSince, AreWritten}
use Rattle.ckpt_step.specs.Lives.{live_addrs}
use Rattle.ckpt_step.specs.Trees.{leaves_at}
use Rattle.tree_write.specs.Writes.{LeadApart}
use Rattle.ckpt_step.specs.Halves.{Half, IsOldBlock}
use Rattle.ckpt_step.specs.Moments.{Moment}
use Rattle.ckpt_step.specs.Rooms.{Written}
use Rattle.ckpt_step.specs.declared.parts.LeafPart.{LeafPart}
use Rattle.ckpt_step.specs.declared.lives.Lone.{Lone}
use Rattle.ckpt_step.proofs.Lones.{lone_old, of_live}
use Rattle.ckpt_step.proofs.Members.{none_some}
use Rattle.ckpt_step.proofs.OldTrees.{are_live_leaves, begins_old, leaf_listed_at, leaves_apart, live_of_old}
use Rattle.ckpt_step.proofs.TableLeaves.{contains_of, in_table}
use Rattle.ckpt_step.proofs.TableParts.{AreAmong, has_parts}
use Rattle.ckpt_step.proofs.HalfCells.{may_of}

-- on this a checkpoint begins to capture trees
pub record IsBegun {D : Type 0} (g : Ghosts D) (old : Option Stored) (was : List TreePlace) (lives : List Lone) (d : Directory) (had : Written) (every : List Table) (next : ℕ) (first : Books) (start : D) : Type 0 where
  pub dir : IsDirectory d
  pub half : Half (g.seen start) (g.may_leave start) first old lives [] [] []
  pub roots : AreRoots every lives d.leaves had was old
  pub made : AreWritten every lives d had was
  pub since : AreSince old lives d had
  pub ascend : NumbersAscend 1 every next

-- The trees of the first of these tables are captured, and this one is next; every: those of the engine.
pub record IsAtTable {D : Type 0} (g : Ghosts D) (old : Option Stored) (was : List TreePlace) (lives : List Lone) (d : Directory) (had : Written) (n : Moment) (every known : List Table) (next : ℕ) (first : Books) (start : D) (i : ℕ) (t : Table) (books : Books) (places : List TreePlace) (more : List LeafPart) (taken : List Addr) (mid : D) : Type 0 where
  pub begun : IsBegun g old was lives d had every next first start
  pub front : AreAmong known every
  pub going : Going g old was lives d.leaves had n known first books places more taken i start mid
  pub at : slice_get known i ≡ Some t
  pub room : g.capacity mid ≡ g.capacity start

module _ {D : Type 0} {g : Ghosts D} {old : Option Stored} {was : List TreePlace} {lives : List Lone} {d : Directory} {had : Written} {every : List Table} {next : ℕ} {first : Books} {start : D} (n : Moment) (known : List Table) (on : IsBegun g old was lives d had every next first start) where
  pub begun : ((c : List ℕ) → g.left_since start (g.moment start) c → g.may_leave start c) → Going g old was lives d.leaves had n known first first [] [] [] 0 start start
  begun only = record {
    trees = [];
    many = refl;
    half = on.half;
    from = λ a there. absurd there;
    left = started g start (IsOld (g.may_leave start) old) (λ c left. inl (only c left));
    images = λ c left. inl left;
    rows = λ rest are. are;
    placed = λ last places. places;
    lacks = λ lacks. lacks;
    by_leaves = record {
      parted = λ i t place tree known_at place_at tree_at. absurd (none_some place_at);
      same = λ i t place tree l known_at place_at tree_at there own. absurd (none_some place_at);
      shelved = λ i t place tree l known_at place_at tree_at there own lies. absurd (none_some place_at);
    };
    of_first = tt;
    keeps = keeps_refl (Has first.cells) (g.seen start);
    used = λ at k has. has;
    live = λ at k has. has;
  }

module _ {D : Type 0} {g : Ghosts D} {old : Option Stored} {was : List TreePlace} {lives : List Lone} {d : Directory} {had : Written} {n : Moment} {every known : List Table} {next : ℕ} {first : Books} {start : D} {i : ℕ} {t : Table} {books : Books} {places : List TreePlace} {more : List LeafPart} {taken : List Addr} {mid : D} (on : IsAtTable g old was lives d had n every known next first start i t books places more taken mid) where
  pub old_mid : (c : List ℕ) → IsOld (g.may_leave mid) old c → IsOld (g.may_leave start) old c
  old_mid c (inl left) = on.going.images c left
  old_mid c (inr has) = inr has

  -- where the leaves of the table stand that were written since
  abbrev pub since_addrs : List Addr
  since_addrs = live_addrs lives (leaves_of t.number d.leaves)

  tree_old : (p : TreePlace) (a : Addr) → slice_get was i ≡ Some p → Member a p.addrs.items → IsOldBlock old lives a
  tree_old p a is there = begins_old (g.seen start) (g.may_leave start) first every next on.begun.ascend lives d.leaves had was old on.begun.half.runs.stands on.begun.roots on.begun.since.lone on.begun.half.runs.cells on.begun.half.runs.units i p a is there

  since_is_old : (a : Addr) → Member a since_addrs → IsOldBlock old lives a
  since_is_old a there =
      let one = of_live lives (leaves_of t.number d.leaves) a there in
      let in_dir = in_table t.number d.leaves one.leaf one.there in
      let own = on.begun.since.leaf one.leaf (contains_of d.leaves one.leaf in_dir.0) one.live in
      subst (λ (x : Addr). IsOldBlock old lives x) (sym one.is) (lone_old old lives on.begun.since.lone (record { leaf = one.leaf.id; addr = one.leaf.entry.link.addr }) own.there)

  pub old_of : (a : Addr) → IsOfTable was since_addrs i a → IsOldBlock old lives a
  old_of a (inl (p, is, there)) = tree_old p a is there
  old_of a (inr there) = since_is_old a there

  live_before : (a : Addr) → IsOfTable was since_addrs i a → HasLive first.cells a.offset a.size
  live_before a of = live_of_old old lives first a on.begun.half.runs.cells (old_of a of)

  pub may_go : MayGo (g.seen mid) (g.may_leave mid) first books old was since_addrs i
  may_go = record {
    over = record {
      may = may_of (g.seen mid) (g.may_leave mid) books old lives taken on.going.half.runs;
      live = on.going.live;
      leaves = are_live_leaves (g.seen start) (g.may_leave start) first every next on.begun.ascend lives d.leaves had was old on.begun.half.runs.stands on.begun.roots on.begun.since.lone on.begun.half.runs.cells on.begun.half.runs.units i;
    };
    apart = apart_at;
    blocks = λ p a is there. live_before a (inl (p, is, there));
    written = λ a there. live_before a (inr there);
    listed = leaf_listed_at (g.seen start) (g.may_leave start) first every next on.begun.ascend lives d.leaves had was old on.begun.half.runs.stands on.begun.roots on.begun.since.lone on.begun.half.runs.cells on.begun.half.runs.units i;
  } where
    apart_at : LeadApart (leaves_at was i)
    apart_at = leaves_apart (g.seen start) (g.may_leave start) first every next on.begun.ascend lives d.leaves had was old on.begun.half.runs.stands on.begun.roots on.begun.since.lone on.begun.half.runs.cells on.begun.half.runs.units i

  pub has : HasPartsAt old lives d.leaves had was t i
  has = has_parts old every lives d had was t i on.begun.roots on.begun.made on.begun.since (on.front i t on.at) (may_go.apart)

  pub own_leaf : (l : Leaf) → Member l (leaves_of t.number d.leaves) → Contains d.leaves l × (l.table ≡ t.number)
  own_leaf l among = let one = in_table t.number d.leaves l among in (contains_of d.leaves l one.0, one.1)
