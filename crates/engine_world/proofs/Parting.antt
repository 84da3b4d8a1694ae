-- A leaf parts while others are at work.
use Rattle.std.proofs.Common.{◌≡◌, ◌≢◌, ◌<◌, ◌+◌, ◌^◌, ℕ, refl, ap, sym, ◌∙◌, List, [], ◌∷◌, inl, inr, subst, arith}
use Rattle.std.specs.Prelude.{Option, Some, None, length, slice_get, slice_set}
use Rattle.std.specs.List.{Contains}
use Rattle.std.proofs.lemmas.List.Elements.{All-contains}
use Rattle.kv_model.specs.ReconcileLaws.{EvictionStands}
use Rattle.row_page.specs.Rows.{Row}
use Rattle.reconcile.specs.Shows.{shown_at}
use Rattle.stored.specs.TableTree.{Entry, first_key}
use Rattle.tree_dir.specs.declared.leaf.Framed.{Framed}
use Rattle.tree_dir.specs.declared.leaf.Leaf.{Leaf}
use Rattle.tree_dir.specs.GivingWay.{LeavesGiveWay as DirectoriesGiveWay, StandFor}
use Rattle.tree_dir.specs.Leaves.{Directory, GaveWay, IsDirectory, leaf_behind, leaf_under, leaves_with}
use Rattle.tree_dir.specs.Ranges.{low_key}
use Rattle.tree_dir.proofs.LeavesWith.{with-first}
use Rattle.update_chain.specs.EventLaws.{StandsFor}
use Rattle.call_steps.specs.declared.frame.Frame.{Frame}
use Rattle.call_steps.specs.declared.frame.FramePiece.{FramePiece}
use Rattle.call_steps.specs.State.{State}
use Rattle.call_steps.specs.Tables.{empty}
use Rattle.engine_world.specs.GivingWay.{without_leaf}
use Rattle.engine_world.specs.Leaves.{LeafStands, emptied, frame_in, generation_at}
use Rattle.engine_world.specs.Parting.{IsBesideLeaf, IsPartedTo, LeavesPart}
use Rattle.engine_world.specs.Stands.{Engine, Stands}
use Rattle.engine_world.specs.Worlds.{Records, World}
use Rattle.engine_world.proofs.Emptying.{frame-of}
use Rattle.engine_world.proofs.Evicting.{key-moves}
use Rattle.engine_world.proofs.Homes.{LeavesStand, same-id}
use Rattle.engine_world.proofs.LeavesBeside.{IsReplaced, frames-stand, other-stands, still-begun, still-owned, under-old}
use Rattle.engine_world.proofs.NextBeside.{behind-given}
use Rattle.engine_world.proofs.SessionsBeside.{KeepNext, doing-same, noticed-same, session-stays}

record IsParting (e : Engine) (w : World) (l : Leaf) (framed : Framed) (f : Frame) (dir : Directory) (made : List Leaf) (shelf : ℕ → List Row) (records : Records) : Type 0 where
  replaced : IsReplaced e w l framed dir made shelf records
  filled : frame_in e.pieces framed.frame ≡ Some f
  last : generation_at e.pieces framed.frame + 1 < 2 ^ 62
  some : (n : Leaf) × Contains made n
  directory : IsDirectory dir
  next : KeepNext e.hub.dir.leaves dir.leaves l
  beside : (session : ℕ) (a : State) → slice_get e.sessions session ≡ Some a → IsBesideLeaf l framed.frame a
  parted : IsPartedTo w e.hub.dir dir l f made shelf records

module _ (evict : EvictionStands) (e : Engine) (w : World) (l : Leaf) (framed : Framed) (f : Frame) (dir : Directory) (made : List Leaf) (shelf : ℕ → List Row) (records : Records) (g : IsParting e w l framed f dir made shelf records) where
  abbrev pieces : List FramePiece
  pieces = slice_set e.pieces framed.frame (emptied e.pieces framed.frame)

  abbrev states : List ℕ
  states = slice_set e.states framed.frame (empty (generation_at e.pieces framed.frame + 1))

  abbrev StandNow : Leaf → Type 0
  StandNow x = LeafStands w.machine shelf records dir.leaves pieces states x

  -- a key of a new leaf
  key-stands : (n : Leaf) → Contains made n → (key : List ℕ) → leaf_under n.table key dir.leaves ≡ Some n → StandsFor w.machine l.table key [] (shown_at key (shelf n.id)) (records n.id key)
  key-stands n there key under = let was = under-old e w l framed dir made shelf records g.replaced n there key under in
      key-moves evict w.machine l.table key f g.parted.past (shown_at key (shelf n.id)) (records n.id key) (g.parted.covers key was) (g.parted.ended key was) (g.parted.made_of n there key under)
      ((frame-of e w l framed g.replaced.stands g.replaced.there g.replaced.placed f g.filled).keys key was)

  made-stands : (n : Leaf) → Contains made n → StandNow n
  made-stands n there = inr (record {
    none = (g.replaced.gave.own n there).1;
    keys = λ key under. subst (λ t. StandsFor w.machine t key [] (shown_at key (shelf n.id)) (records n.id key)) (sym (g.replaced.gave.own n there).0) (key-stands n there key under);
    ordered = g.parted.ordered n there;
    bare = g.parted.bare n there;
  })

  each-stands : LeavesStand w.machine shelf records dir.leaves pieces states
  each-stands x there = elim (g.replaced.gave.members x there) [
    | inl old ↦ other-stands e w l framed dir made shelf records g.replaced x old.0 old.1
    | inr new ↦ made-stands x new
  ]

  parts : Stands (without_leaf e dir framed.frame) (record w { shelf = shelf; records = records })
  parts = record {
    valid = g.replaced.stands.valid;
    fault = g.replaced.stands.fault;
    stamps = g.replaced.stands.stamps;
    txns = g.replaced.stands.txns;
    catalog = g.replaced.stands.catalog;
    made = g.replaced.stands.made;
    dir = g.directory;
    begun = still-begun e w l framed dir made shelf records g.replaced g.some.0 g.some.1;
    owned = still-owned e w l framed dir made shelf records g.replaced;
    leaves = each-stands;
    unused = g.parted.unused;
    frames = frames-stand e w l framed dir made shelf records g.replaced g.last;
    count = g.replaced.stands.count;
    doings = g.replaced.stands.doings;
    doing = λ r b at. g.replaced.stands.doing r b at ∙ sym (doing-same e w l framed dir made shelf records g.replaced g.next r b (g.beside r b at) (g.replaced.stands.sessions r b at));
    sessions = λ r b at. session-stays e w l framed dir made shelf records g.replaced g.next r b (g.beside r b at) (g.replaced.stands.sessions r b at);
    systems = g.replaced.stands.systems;
    noticed = λ r b at. noticed-same e w l framed dir made shelf records g.replaced g.next r b (g.beside r b at) (g.replaced.stands.sessions r b at) (w.again r) (g.replaced.stands.noticed r b at);
  }

-- ---- leaves of other tables keep their next ones

keep-next : (d next : Directory) (l : Leaf) (entries : List Entry) (ids : List ℕ) (low : List ℕ) → IsDirectory d → Contains d.leaves l → GaveWay d next l.id entries ids → first_key entries ≡ Some low → StandFor d next l (leaves_with l.table ids entries)
    → KeepNext d.leaves next.leaves l
keep-next d next l [] ids low is there gave begins stand x x_there other = absurd cc
keep-next d next l (e0 ∷ entries) [] low is there gave begins stand x x_there other = absurd (let many = gave.fresh.many in omega (arith, many))
keep-next d next l (e0 ∷ entries) (id0 ∷ ids) low is there gave begins stand x x_there other = ap low_key (ap (leaf_behind x.id) gave.leaves ∙ behind-given l.id l.table x.id x.table id0 ids e0 entries d.leaves (record {
  other = λ same. other (ap (λ (y : Leaf). y.table) (same-id d x l is x_there there (sym same)));
  others = λ same. other (sym same);
  gone = λ y at same. ap (λ (z : Leaf). z.table) (same-id d y l is at there same);
  owner = λ y at same. ap (λ (z : Leaf). z.table) (same-id d y x is at x_there same);
  news = λ n at same. let below = All-contains (λ (y : Leaf). y.id < d.next) d.leaves x is.below x_there in let from = stand.later n at in absurd (omega (arith, below, from, same));
}))

pub leaves-part : DirectoriesGiveWay → EvictionStands → LeavesPart
leaves-part give evict e w l framed f dir entries ids shelf records st there placed filled last beside place gave is parted = parts evict e w l framed f dir (leaves_with l.table ids entries) shelf records (record {
  replaced = record {
    stands = st;
    there = there;
    placed = placed;
    gave = stand;
    others = parted.others;
    kept = parted.kept;
  };
  filled = filled;
  last = last;
  some = let n = with-first l.table ids entries place.leaf.entry.key gave.fresh.many place.begins in (n.0, n.1);
  directory = is;
  next = keep-next e.hub.dir dir l entries ids place.leaf.entry.key st.dir there gave place.begins stand;
  beside = beside;
  parted = parted;
}) where
  stand : StandFor e.hub.dir dir l (leaves_with l.table ids entries)
  stand = give e.hub.dir dir l entries ids st.dir is there place gave
