-- The steps of the eviction of a leaf.
use Rattle.std.specs.Prelude.{◌≡◌, ◌≢◌, ℕ, ◌≤◌, false, List, [], ◌∷◌, length, Option, None, Some, Result, Ok, Err, slice_get}
use Rattle.device_layout.specs.declared.addr.Addr.{Addr}
use Rattle.device_layout.specs.declared.link.Link.{Link}
use Rattle.disk_model.specs.declared.disk.Disk.{Ghosts}
use Rattle.wt_code.specs.declared.store_error.StoreError.{StoreError}
use Rattle.item.specs.declared.Change.{Change}
use Rattle.stamp.specs.declared.Version.{Version}
use Rattle.leaf_rows.specs.Rows.{AreFit}
use Rattle.reconcile.specs.declared.image.Image.{Image}
use Rattle.reconcile.specs.declared.image.Moved.{Moved}
use Rattle.reconcile.specs.Images.{AreImages}
use Rattle.row_page.specs.Rows.{Row, key_most}
use Rattle.stored.specs.Stored.{Stored}
use Rattle.tree_dir.specs.declared.leaf.Leaf.{Leaf}
use Rattle.tree_dir.specs.Leaves.{leaf_named}
use Rattle.tree_write.specs.Drafts.{AreFrom}
use Rattle.call_steps.specs.declared.hub.Hub.{Hub}
use Rattle.kv_model.specs.History.{Table}
use Rattle.engine_world.specs.Evicting.{IsEvictedTo, with_rows}
use Rattle.engine_world.specs.GoingOut.{with_again}
use Rattle.engine_world.specs.Stands.{Engine, Stands}
use Rattle.engine_world.specs.Worlds.{World, with_records}
use Rattle.engine.specs.Evictions.{HasBeenEvicted, MayBeEvicted}
use Rattle.evict_step.specs.Kept.{KeepsAt}
use Rattle.ckpt_step.specs.declared.ground.Ground.{Ground}
use Rattle.ckpt_step.specs.CutOuts.{IsSameBut, LetGo, NotPut}
use Rattle.ckpt_step.specs.Evicts.{LeftFrame}
use Rattle.ckpt_step.specs.Holding.{addrs_if, gone_if, own_of, put_lone}
use Rattle.ckpt_step.specs.Lives.{has_at, is_live}
use Rattle.ckpt_step.specs.Parts.{has_rows, part_of}
use Rattle.ckpt_step.specs.Rooms.{known_in}

-- the leaf's low key, not too long, from which the rows of these images stand
pub record IsLowOf (e : Engine) (id : ℕ) (images : List Image) (low : List ℕ) : Type 0 where
  pub leaf : Leaf
  pub there : leaf_named id e.hub.dir.leaves ≡ Some leaf
  pub is : low ≡ leaf.entry.key
  pub short : length low ≤ key_most
  pub from : (rows : List Row) → AreImages images rows → AreFit rows → AreFrom low rows

-- ---- the leaf leaves its frame

-- in the world in which its block has the rows by which it may, and the history what moves, the calls that had found it may be told so, and nobody else sees it
abbrev pub StandsEvicted : Engine → Engine → ℕ → Type 0
StandsEvicted e e' id = (may : MayBeEvicted e id) (w : World) (rows : List Row) (moved : List ℕ → List (Version Change)) → Stands e w → IsEvictedTo w.machine e.hub.dir.leaves may.leaf may.frame rows moved → Stands e' (with_records id moved (with_rows id rows (with_again e may.framed.frame w)))

module _ (e e' : Engine) (g g' : Ground) (id : ℕ) (link : Link) where
  -- where its former block stands, if it was written since
  abbrev pub former_block : Option Addr
  former_block = own_of g.lives (leaf_named id e.hub.dir.leaves)

  -- it did, and the block is that of the leaf
  pub record HasLeft : Type 0 where
    pub out : HasBeenEvicted e e' id link
    pub stands : StandsEvicted e e' id
    pub lives : g'.lives ≡ gone_if (put_lone (record { leaf = id; addr = link.addr }) g.lives) former_block
    pub gone : known_in g'.parts id ≡ None
    pub others : (other : ℕ) → other ≢ id → known_in g'.parts other ≡ known_in g.parts other
    pub blocks : LetGo g.place.blocks g'.place.blocks (addrs_if former_block)
    pub same : IsSameBut g g'

  -- it did not, and the block is free again
  pub record HasStayed : Type 0 where
    pub engine : e' ≡ e
    pub lives : has_at g.lives link.addr.offset ≡ false → g'.lives ≡ g.lives
    pub parts : g'.parts ≡ g.parts
    pub blocks : LetGo g.place.blocks g'.place.blocks (link.addr ∷ [])
    pub same : IsSameBut g g'

-- ---- its image is written, and it does

module _ {D : Type 0} (g : Ghosts D) (old : Option Stored) (w : World) (stand stand' : Ground) (e e' : Engine) (id : ℕ) (before after : D) where
  abbrev pub PutsBack : List Moved → Result (Unit {0}) StoreError → Type 0
  PutsBack moved (Ok done) = LeftFrame g old w stand stand' e e' id before after moved
  PutsBack moved (Err x) = NotPut g old w stand stand' e e' id before after x

-- ---- it has no keys, and leaves its frame without a block

-- No block of the live tree is its own, it leads to no rows, the checkpoint before has none of it, and that has its table.
pub record IsRowless (g : Ground) (hub : Hub) (l : Leaf) : Type 0 where
  pub dead : is_live g.lives l ≡ false
  pub link : has_rows l.entry.link ≡ false
  pub part : part_of (known_in g.parts) l ≡ []
  pub placed : (i : ℕ) (t : Table) → slice_get hub.tables.tables i ≡ Some t → l.table ≡ t.number → slice_get g.trees.items i ≢ None

-- it did, leads where it led, and nothing is kept of it, nor of what checkpoints wrote of it
pub record HasLeftEmpty (e e' : Engine) (g g' : Ground) (id : ℕ) : Type 0 where
  pub link : Link
  pub out : HasBeenEvicted e e' id link
  pub led : link ≡ out.may.leaf.entry.link
  pub rowless : IsRowless g e.hub out.may.leaf
  pub stands : StandsEvicted e e' id
  pub gone : known_in g'.parts id ≡ None
  pub others : (other : ℕ) → other ≢ id → known_in g'.parts other ≡ known_in g.parts other
  pub kept : KeepsAt g.kept g'.kept id []
  pub same : g' ≡ record g { parts = g'.parts; kept = g'.kept }
