-- The steps of the writing out of a leaf, while nobody is at work or beside others.
use Rattle.std.specs.Prelude.{◌≡◌, ◌≢◌, ℕ, ◌<◌, ◌≤◌, true, false, List, length, Option, None, Some, Result, Ok, Err, IfSome}
use Rattle.std.specs.List.{AllByRecursion, Contains}
use Rattle.disk_model.specs.Crash.{LeavesOnly}
use Rattle.disk_model.specs.declared.disk.Disk.{Ghosts}
use Rattle.extent_list.specs.Space.{end_of}
use Rattle.block_mgr.specs.Blocks.{Books}
use Rattle.block_mgr.specs.Cells.{AreUnits, cell_at}
use Rattle.device_layout.specs.declared.addr.Addr.{Addr}
use Rattle.item.specs.declared.Change.{Change}
use Rattle.wt_code.specs.declared.refusals.Refusal.{Refusal}
use Rattle.wt_code.specs.declared.refusals.Refusal.TheVariants.{DiskFault}
use Rattle.wt_code.specs.declared.store_error.StoreError.{StoreError}
use Rattle.wt_code.specs.declared.store_error.StoreError.TheVariants.{NoSpace, Down}
use Rattle.wt_code.specs.StoreErrors.{refusal_of}
use Rattle.frame_capture.specs.Capture.{IsCaptured}
use Rattle.leaf_frame.specs.Leaf.{HeldLeaf}
use Rattle.leaf_rows.specs.Rows.{AreFit}
use Rattle.reconcile.specs.declared.image.Image.{Image}
use Rattle.reconcile.specs.Images.{AreImages}
use Rattle.row_page.specs.Rows.{Row, is_below, key_most}
use Rattle.reconcile.specs.Shows.{shown_at}
use Rattle.snapshot.specs.Matters.{NoneResolves, SeesCommitted}
use Rattle.snapshot.specs.Sight.{Sight}
use Rattle.stamp.specs.declared.Version.{Version}
use Rattle.stored.specs.Stored.{Stored}
use Rattle.stored.specs.TableTree.{Entry}
use Rattle.checkpoint_core.specs.Finishes.{IsOld}
use Rattle.tree_dir.specs.declared.leaf.Leaf.{Leaf}
use Rattle.tree_dir.specs.GivingWay.{StandFor}
use Rattle.tree_dir.specs.Leaves.{Directory, IsDirectory, leaf_behind, leaf_named, leaf_under, leaves_with}
use Rattle.tree_write.specs.Captures.{IsSafe}
use Rattle.tree_write.specs.Drafts.{AreFrom, addrs_to}
use Rattle.engine_world.specs.GivingWay.{IsIdle, IsShelved}
use Rattle.engine_world.specs.Parting.{IsPartedTo}
use Rattle.engine_world.specs.Stands.{Engine, Stands}
use Rattle.engine_world.specs.Systems.{with_fault}
use Rattle.engine_world.specs.Worlds.{Records, World}
use Rattle.engine.specs.Frames.{HasGivenWay, IsFramed}
use Rattle.engine.specs.Partings.{HasParted, MayPart}
use Rattle.ckpt_step.specs.declared.ground.Ground.{Ground}
use Rattle.ckpt_step.specs.declared.cutting_out.LeafCut.{LeafCut}
use Rattle.ckpt_step.specs.declared.moving_in.When.{When}
use Rattle.ckpt_step.specs.declared.moving_in.When.TheVariants.{Idle, AtWork}
use Rattle.ckpt_step.specs.Floors.{AreLivesOn, Follows}
use Rattle.ckpt_step.specs.Frees.{without_all}
use Rattle.ckpt_step.specs.Grounds.{StandsOn}
use Rattle.ckpt_step.specs.Holding.{AreNewAt, addrs_if, gone_if, held_all, named_all, own_of}
use Rattle.ckpt_step.specs.Lives.{has_at, is_live}
use Rattle.ckpt_step.specs.Rooms.{known_in}
use Rattle.ckpt_step.specs.Steps.{IsLoaded}
use Rattle.ckpt_step.specs.WritesOut.{IsFullOut}

-- ---- the images

-- each is durable at this stamp, as its image says
abbrev pub AreOldAt : ℕ → List Image → Type 0
AreOldAt oldest images = AllByRecursion (λ (i : Image). i.durable ≤ oldest) images

-- the low key of the leaf is below that of the next one, and so are those of the images
pub record AreAhead (low : List ℕ) (images : List Image) (key : List ℕ) : Type 0 where
  pub low_is : is_below low key ≡ true
  pub each : AllByRecursion (λ (i : Image). is_below i.low key ≡ true) images

-- Images of these rows that may stand where the leaf of this id does: some, from its low key on and below the next leaf's.
pub record MayReplace (e : Engine) (id : ℕ) (cut : LeafCut) (rows : List Row) : Type 0 where
  pub leaf : Leaf
  pub there : leaf_named id e.hub.dir.leaves ≡ Some leaf
  pub table : cut.table ≡ leaf.table
  pub low : cut.low ≡ leaf.entry.key
  pub are : AreImages cut.images.items rows
  pub fit : AreFit rows
  pub some : 1 ≤ length cut.images.items
  pub short : length cut.low ≤ key_most
  pub from : AreFrom cut.low rows
  pub ahead : IfSome (leaf_behind id e.hub.dir.leaves) (λ n. AreAhead cut.low cut.images.items n.entry.key)

-- The newest versions of the keys of a leaf that is in a frame, cut into images that may stand there, durable at the oldest stamp.
pub record IsCutOut (e : Engine) (id : ℕ) (cut : LeafCut) : Type 0 where
  pub rows : List Row
  pub place : MayReplace e id cut rows
  pub held : HeldLeaf
  pub loaded : IsLoaded e place.leaf held
  pub sight : Sight
  pub sees : (w : World) → Stands e w → NoneResolves w.machine → SeesCommitted w.machine (length w.machine.history) sight
  pub captured : IsCaptured sight held rows
  pub oldest : ℕ
  pub oldest_is : (w : World) → Stands e w → oldest ≡ w.machine.oldest
  pub durable : AreOldAt oldest cut.images.items

-- ---- the leaf gives way to them

-- only the blocks, the parts and what was written since may differ
pub record IsSameBut (g g' : Ground) : Type 0 where
  pub slot : g'.place.slot ≡ g.place.slot
  pub number : g'.number ≡ g.number
  pub trees : g'.trees ≡ g.trees
  pub floor : g'.floor ≡ g.floor
  pub history : g'.history ≡ g.history
  pub kept : g'.kept ≡ g.kept

-- the live tree let go of the blocks at these addresses
pub record LetGo (books books' : Books) (addrs : List Addr) : Type 0 where
  pub cells : (u : ℕ) → cell_at books'.cells u ≡ without_all u (cell_at books.cells u) addrs
  pub end : end_of books'.space ≡ end_of books.space
  pub units : AreUnits books.cells books.space → AreUnits books'.cells books'.space
  pub synced : books'.is_synced ≡ books.is_synced
  pub held : books'.is_held ≡ books.is_held

-- the leaf of this id may give way: it is in a frame and nobody is at work, or it may part
abbrev pub MayGiveWay : When → Engine → ℕ → Type 0
MayGiveWay Idle e id = IsIdle e × IsFramed e.hub.dir.leaves id
MayGiveWay AtWork e id = MayPart e id

module _ (e e' : Engine) (id : ℕ) (entries : List Entry) where
  -- nobody sees that it gave way
  abbrev pub StandsOut : Type 0
  StandsOut = (way : HasGivenWay e e' id entries) (w : World) (shelf : ℕ → List Row) → Stands e w → w.machine.checkpoint ≡ None → IsShelved w.machine e.hub.dir e'.hub.dir (leaves_with way.leaf.table way.ids entries) w.shelf shelf → Stands e' (record w { shelf = shelf })

  -- nor that it parted
  abbrev pub StandsParted : Type 0
  StandsParted = (p : HasParted e e' id entries) (w : World) (shelf : ℕ → List Row) (records : Records) → Stands e w
      → IsPartedTo w e.hub.dir e'.hub.dir p.way.leaf p.may.may.frame (leaves_with p.way.leaf.table p.way.ids entries) shelf records → Stands e' (record w { shelf = shelf; records = records })

  abbrev pub StandsThen : When → Type 0
  StandsThen Idle = StandsOut
  StandsThen AtWork = StandsParted

module _ (e e' : Engine) (g g' : Ground) (id table : ℕ) (entries : List Entry) where
  -- where its own block stands, if it was written since
  abbrev pub own_block : Option Addr
  own_block = own_of g.lives (leaf_named id e.hub.dir.leaves)

  -- it did, and their blocks are those of the leaves in its place
  pub record HasMoved (when : When) : Type 0 where
    pub way : HasGivenWay e e' id entries
    pub stands : StandsThen e e' id entries when
    pub now : IsDirectory e'.hub.dir
    pub lives : g'.lives ≡ gone_if (named_all e'.hub.dir table (held_all id g.lives entries) entries) own_block
    pub gone : known_in g'.parts id ≡ None
    pub others : (other : ℕ) → other ≢ id → known_in g'.parts other ≡ known_in g.parts other
    pub blocks : LetGo g.place.blocks g'.place.blocks (addrs_if own_block)
    pub same : IsSameBut g g'

  -- it did not, and the blocks are free again
  pub record HasNotMoved : Type 0 where
    pub engine : e' ≡ e
    pub lives : AreNewAt g.lives entries → g'.lives ≡ g.lives
    pub parts : g'.parts ≡ g.parts
    pub blocks : LetGo g.place.blocks g'.place.blocks (addrs_to entries)
    pub same : IsSameBut g g'

-- ---- the images are written, and the leaf gives way

-- The shelf has of these leaves, which stand for one of these rows, the rows that lie in them, and of others what it had.
pub record AreShelved (old next : Directory) (l : Leaf) (rows : List Row) (made : List Leaf) (before shelf : ℕ → List Row) : Type 0 where
  pub stand : StandFor old next l made
  pub others : (id : ℕ) → id < old.next → shelf id ≡ before id
  pub within : (n : Leaf) → Contains made n → (key : List ℕ) → leaf_under l.table key next.leaves ≡ Some n → leaf_under l.table key old.leaves ≡ Some l
  pub shown : (n : Leaf) → Contains made n → (key : List ℕ) → leaf_under l.table key next.leaves ≡ Some n → shown_at key (shelf n.id) ≡ shown_at key rows
  pub lies : (n : Leaf) → Contains made n → (key : List ℕ) (v : Version Change) → shown_at key (shelf n.id) ≡ Some v → leaf_under l.table key next.leaves ≡ Some n

module _ {D : Type 0} (g : Ghosts D) (old : Option Stored) (w : World) (stand stand' : Ground) (e e' : Engine) (id : ℕ) (before after : D) where
  -- The leaf gave way to others with these rows, each in a block that the live tree alone has. forgets: nothing is kept of it; freed: nor its own block, where it was written since the checkpoint before.
  pub record HasPut (when : When) (rows : List Row) : Type 0 where
    pub entries : List Entry
    pub way : HasGivenWay e e' id entries
    pub stands : StandsThen e e' id entries when
    pub now : IsDirectory e'.hub.dir
    pub left : LeavesOnly g before after (IsOld (g.may_leave before) old)
    pub shelf : ℕ → List Row
    pub shelved : AreShelved e.hub.dir e'.hub.dir way.leaf rows (leaves_with way.leaf.table way.ids entries) w.shelf shelf
    pub on : StandsOn (g.seen after) (g.may_leave after) e'.hub stand' old
    pub follows : Follows old e'.hub stand' (record w { shelf = shelf })
    pub since : AreLivesOn (g.seen after) e'.hub stand' (record w { shelf = shelf })
    pub live : (n : Leaf) → Contains (leaves_with way.leaf.table way.ids entries) n → is_live stand'.lives n ≡ true
    pub freed : is_live stand.lives way.leaf ≡ true → has_at stand'.lives way.leaf.entry.link.addr.offset ≡ false
    pub forgets : known_in stand'.parts id ≡ None

  pub record NotPut (x : StoreError) : Type 0 where
    pub left : LeavesOnly g before after (IsOld (g.may_leave before) old)
    pub on : IsSafe x → StandsOn (g.seen after) (g.may_leave after) e.hub stand' old
    pub follows : IsSafe x → Follows old e.hub stand' w
    pub since : IsSafe x → AreLivesOn (g.seen after) e.hub stand' w
    pub same : e' ≡ e
    pub full : x ≡ NoSpace → IsFullOut (g.seen before) (g.capacity before) stand.lives w.machine e.hub.dir.leaves id

  abbrev pub PutsOut : When → List Row → Result (Unit {0}) StoreError → Type 0
  PutsOut when rows (Ok done) = HasPut when rows
  PutsOut when rows (Err x) = NotPut x

-- the answer that tells it; a fault of a write takes the engine down
abbrev pub TellsOut : Engine → Engine → StoreError → Refusal → Type 0
TellsOut e e' (Down fault) answer = (answer ≡ DiskFault) × (e' ≡ with_fault e fault)
TellsOut e e' x answer = (answer ≡ refusal_of x) × (e' ≡ e)
