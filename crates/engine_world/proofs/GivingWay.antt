-- A leaf of an engine at rest gives way to others, which are in no frame.
use Rattle.std.proofs.Common.{◌≡◌, ◌<◌, ◌+◌, ◌^◌, ℕ, refl, sym, ◌∙◌, List, [], inl, inr, subst, arith}
use Rattle.std.specs.Prelude.{None, slice_set}
use Rattle.std.specs.List.{Contains}
use Rattle.item.specs.declared.Change.{Change}
use Rattle.stamp.specs.declared.Version.{Version}
use Rattle.row_page.specs.Rows.{Row}
use Rattle.reconcile.specs.Shows.{shown_at}
use Rattle.tree_dir.specs.declared.leaf.Framed.{Framed}
use Rattle.tree_dir.specs.declared.leaf.Leaf.{Leaf}
use Rattle.tree_dir.specs.GivingWay.{LeavesGiveWay as DirectoriesGiveWay}
use Rattle.tree_dir.specs.Leaves.{Directory, IsDirectory, leaves_with}
use Rattle.tree_dir.proofs.LeavesWith.{with-first}
use Rattle.update_chain.specs.EventLaws.{StandsFor}
use Rattle.call_steps.specs.declared.frame.FramePiece.{FramePiece}
use Rattle.call_steps.specs.Tables.{empty}
use Rattle.engine_world.specs.GivingWay.{IsIdle, IsShelved, LeavesGiveWay, without_leaf}
use Rattle.engine_world.specs.Leaves.{LeafStands, emptied, generation_at}
use Rattle.engine_world.specs.Stages.{IsNoticed}
use Rattle.engine_world.specs.Stands.{Engine, Stands}
use Rattle.engine_world.specs.Worlds.{World}
use Rattle.engine_world.proofs.AtRest.{Nobody, newest-stands, nobody, rests, rests-over, row-alone}
use Rattle.engine_world.proofs.Homes.{LeavesStand}
use Rattle.engine_world.proofs.LeavesBeside.{IsReplaced, frames-stand, other-stands, still-begun, still-owned}

record IsGiving (e : Engine) (w : World) (l : Leaf) (framed : Framed) (dir : Directory) (made : List Leaf) (shelf : ℕ → List Row) : Type 0 where
  replaced : IsReplaced e w l framed dir made shelf w.records
  idle : IsIdle e
  free : w.machine.checkpoint ≡ None
  last : generation_at e.pieces framed.frame + 1 < 2 ^ 62
  some : (n : Leaf) × Contains made n
  directory : IsDirectory dir
  shelved : IsShelved w.machine e.hub.dir dir made w.shelf shelf

module _ (e : Engine) (w : World) (l : Leaf) (framed : Framed) (dir : Directory) (made : List Leaf) (shelf : ℕ → List Row) (g : IsGiving e w l framed dir made shelf) where
  abbrev leaves : List Leaf
  leaves = e.hub.dir.leaves

  abbrev pieces : List FramePiece
  pieces = slice_set e.pieces framed.frame (emptied e.pieces framed.frame)

  abbrev states : List ℕ
  states = slice_set e.states framed.frame (empty (generation_at e.pieces framed.frame + 1))

  abbrev StandNow : Leaf → Type 0
  StandNow x = LeafStands w.machine shelf w.records dir.leaves pieces states x

  none : Nobody w.machine
  none = nobody e w g.replaced.stands g.idle

  -- ---- the leaves in its place

  -- the history keeps nothing of leaves that have just been made
  made-unused : (n : Leaf) → Contains made n → (key : List ℕ) → w.records n.id key ≡ []
  made-unused n there key = g.replaced.stands.unused n.id (g.replaced.gave.later n there) key

  made-stands : (n : Leaf) → Contains made n → StandNow n
  made-stands n there = inr (record {
    none = (g.replaced.gave.own n there).1;
    keys = λ key under. subst (λ (kept : List (Version Change)). StandsFor w.machine n.table key [] (shown_at key (shelf n.id)) kept) (sym (made-unused n there key))
        (newest-stands w.machine n.table key (shown_at key (shelf n.id)) g.replaced.stands.valid none g.free (g.shelved.newest n there key under) (g.shelved.durable n there key));
    ordered = λ key under. row-alone (shown_at key (shelf n.id)) (w.records n.id key) (made-unused n there key);
    bare = λ key outside. (g.shelved.bare n there key outside, made-unused n there key);
  })

  each-stands : LeavesStand w.machine shelf w.records dir.leaves pieces states
  each-stands x there = elim (g.replaced.gave.members x there) [
    | inl old ↦ other-stands e w l framed dir made shelf w.records g.replaced x old.0 old.1
    | inr new ↦ made-stands x new
  ]

  gives-way : Stands (without_leaf e dir framed.frame) (record w { shelf = shelf })
  gives-way = record {
    valid = g.replaced.stands.valid;
    fault = g.replaced.stands.fault;
    stamps = g.replaced.stands.stamps;
    txns = g.replaced.stands.txns;
    catalog = g.replaced.stands.catalog;
    made = g.replaced.stands.made;
    dir = g.directory;
    begun = still-begun e w l framed dir made shelf w.records g.replaced g.some.0 g.some.1;
    owned = still-owned e w l framed dir made shelf w.records g.replaced;
    leaves = each-stands;
    unused = λ id past key. g.replaced.stands.unused id (let ids = g.replaced.gave.ids in omega (arith, ids, past)) key;
    frames = frames-stand e w l framed dir made shelf w.records g.replaced g.last;
    count = g.replaced.stands.count;
    doings = g.replaced.stands.doings;
    doing = λ r b at. g.replaced.stands.doing r b at ∙ rests leaves dir.leaves r b (g.idle r b at);
    sessions = λ r b at. rests-over w.machine e.hub dir e.pieces pieces r b none (g.idle r b at) (g.replaced.stands.sessions r b at);
    systems = g.replaced.stands.systems;
    noticed = λ r b at. subst (λ s. IsNoticed s pieces (w.again r)) (sym (g.idle r b at).stage) tt;
  }

pub leaves-give-way : DirectoriesGiveWay → LeavesGiveWay
leaves-give-way give e w l framed dir entries ids shelf st idle free there placed last place gave is shelved = gives-way e w l framed dir (leaves_with l.table ids entries) shelf (record {
  replaced = record {
    stands = st;
    there = there;
    placed = placed;
    gave = give e.hub.dir dir l entries ids st.dir is there place gave;
    others = shelved.others;
    kept = λ id below key. refl;
  };
  idle = idle;
  free = free;
  last = last;
  some = let n = with-first l.table ids entries place.leaf.entry.key gave.fresh.many place.begins in (n.0, n.1);
  directory = is;
  shelved = shelved;
})
