-- A table's tree, as it is captured leaf by leaf.
use Rattle.std.specs.Prelude.{◌≡◌, ℕ, ◌≤◌, List, [], ◌∷◌, ◌++◌, length, Option, Result, Ok, Err, IfSome}
use Rattle.std.specs.List.{AllByRecursion}
use Rattle.disk_model.specs.declared.disk.Disk.{Ghosts}
use Rattle.block_mgr.specs.Blocks.{Books}
use Rattle.device_layout.specs.declared.addr.Addr.{Addr}
use Rattle.device_layout.specs.declared.link.Link.{Link}
use Rattle.wt_code.specs.declared.store_error.StoreError.{StoreError}
use Rattle.wt_code.specs.declared.store_error.StoreError.TheVariants.{NoSpace}
use Rattle.disk_model.specs.Crash.{LeavesOnly}
use Rattle.checkpoint_core.specs.Finishes.{IsOld}
use Rattle.row_page.specs.Rows.{Row}
use Rattle.stored.specs.Blocks.{Block}
use Rattle.stored.specs.Stored.{Stored}
use Rattle.snapshot.specs.Sight.{Sight}
use Rattle.stored.specs.TableTree.{Climbs, Entry, EntryFits, Stay, first_key}
use Rattle.stored.specs.Tree.{join}
use Rattle.tree_dir.specs.declared.leaf.Leaf.{Leaf}
use Rattle.tree_write.specs.Captures.{Captures, IsSafe, places_of}
use Rattle.frame_capture.specs.Capture.{IsCaptured}
use Rattle.leaf_frame.specs.Leaf.{HeldLeaf}
use Rattle.tree_write.specs.Cuts.{AreFullLeaves}
use Rattle.tree_write.specs.Drafts.{AreLiveLeaves, Drafted, StandBelow, aligned}
use Rattle.tree_write.specs.Steps.{LeavesStopped, links_in}
use Rattle.tree_write.specs.Writes.{KeepSame}
use Rattle.ckpt_step.specs.Floors.{IsAsItLies}
use Rattle.ckpt_step.specs.Moments.{AreServedIn, Moment}
use Rattle.ckpt_step.specs.Parts.{AreOfLeaves, ArePartedBy, IsPart, links_over, part_of, parts_of, with_parts}
use Rattle.ckpt_step.specs.Rooms.{Written}
use Rattle.ckpt_step.specs.Sizes.{LacksFront}
use Rattle.ckpt_step.specs.declared.parts.LeafPart.{LeafPart}

-- table: the number of the table; leaves: those of the directory; had: what the checkpoint before has of them; seen: what the device had as the table was begun
module _ (seen : List ℕ) (leaves : List Leaf) (had : Written) (n : Moment) (table : ℕ) where
  -- A leaf is captured, and the entries of its images are its part now. The rows serve the checkpoint, and where it is in no frame, or was not written, those of its block. An image that the checkpoint before has at the same place keeps its block.
  pub record IsLeafDrafted (written : Written) (l : Leaf) (images : List (List Row)) : Type 0 where
    pub is : IsPart leaves table l (part_of written l) images
    pub many : length (part_of written l) ≡ length images
    pub serve : AreServedIn n leaves table l (join images)
    pub shelved : IsAsItLies written l → join images ≡ n.world.shelf l.id
    pub same : KeepSame seen (links_in (part_of had l)) (links_in (part_of written l)) images

  -- so is each of these
  abbrev pub AreLeavesDrafted : Written → List Leaf → List (List (List Row)) → Type 0
  AreLeavesDrafted written [] [] = Unit {0}
  AreLeavesDrafted written [] (images ∷ parts) = ⊥
  AreLeavesDrafted written (l ∷ front) [] = ⊥
  AreLeavesDrafted written (l ∷ front) (images ∷ parts) = IsLeafDrafted written l images × AreLeavesDrafted written front parts

-- books, more, captured, before: as the table was begun
module _ {D : Type 0} (g : Ghosts D) (old : Option Stored) (first : Books) (leaves : List Leaf) (had : Written) (n : Moment) (table : ℕ) (books books' : Books) (more more' : List LeafPart) (captured captured' : List Addr) (before after : D) where
  -- the first leaves of the table are captured, and the draft has these entries
  pub record Drafting (front : List Leaf) (es : List Entry) : Type 0 where
    pub parts : List (List (List Row))
    pub own_more : List LeafPart
    pub addrs : List Addr
    pub more_are : more' ≡ more ++ own_more
    pub of_front : AreOfLeaves front own_more
    pub captured_are : captured' ≡ captured ++ addrs
    pub parted : ArePartedBy leaves table front parts
    pub drafted : Drafted g old first books books' before after (links_over had front parts) (join parts) addrs es
    pub stand : StandBelow es parts
    pub entries_are : es ≡ parts_of (with_parts had own_more) front
    pub each : AreLeavesDrafted (g.seen before) leaves had n table (with_parts had own_more) front parts

  -- some of them are, and then there is an error: without room not even for the first ones
  pub record DraftStopped (e : StoreError) : Type 0 where
    pub blocks : List Block
    pub sizes : List ℕ
    pub captured_are : captured' ≡ captured ++ places_of blocks
    pub captures : IsSafe e → Captures g old first blocks sizes books books' before after
    pub left : LeavesOnly g before after (IsOld (g.may_leave before) old)
    pub lacks : e ≡ NoSpace → (front : List Leaf) × LacksFront (g.seen before) (g.capacity before) leaves had n table books.space front

  abbrev pub Drafts : List Leaf → List Entry → Result (Unit {0}) StoreError → Type 0
  Drafts front es (Ok done) = Drafting front es
  Drafts front es (Err e) = DraftStopped e

-- ---- one leaf

-- what the snapshot sees of a leaf in memory, cut into images
pub record AreCutOf (s : Sight) (held : HeldLeaf) (images : List (List Row)) : Type 0 where
  pub captured : IsCaptured s held (join images)
  pub full : AreFullLeaves images
  pub some : AllByRecursion (λ (rows : List Row). 1 ≤ length rows) images

-- the entries of the images of a leaf, whose low key the first one has
pub record AreEntriesFrom (low : List ℕ) (part : List Entry) (images : List (List Row)) : Type 0 where
  pub fit : AllByRecursion (λ (e : Entry). EntryFits e) part
  pub climbs : Climbs part
  pub begins : IfSome (first_key part) (λ key. key ≡ low)
  pub stay : Stay part images

-- s, held: the snapshot, and the leaf in memory; l, part: the leaf, and what the checkpoint before has of it; es, es', more, more', captured, captured': of the draft, the leaves that are written and the blocks that are captured, before and after
module _ {D : Type 0} (g : Ghosts D) (s : Sight) (held : HeldLeaf) (l : Leaf) (part : List Entry) (mid books' : Books) (es es' : List Entry) (more more' : List LeafPart) (captured captured' : List Addr) (between after : D) where
  -- the leaf is written, with these images and entries
  pub record LeafMade (images : List (List Row)) (own : List Entry) (addrs : List Addr) : Type 0 where
    pub cut : AreCutOf s held images
    pub entries : AreEntriesFrom l.entry.key own images
    pub es_are : es' ≡ es ++ own
    pub made : LeafPart
    pub of_leaf : made.leaf ≡ l.id
    pub with_entries : made.entries.items ≡ own
    pub more_are : more' ≡ more ++ made ∷ []
    pub captured_are : captured' ≡ captured ++ addrs

  -- behind any leaves of a draft
  abbrev pub MakesLeaf : Type 0
  MakesLeaf = (old : Option Stored) (first books : Books) (before : D) (links : List Link) (leaves : List (List Row)) (listed : List Addr)
      → Drafted g old first books mid before between links leaves listed es → AreLiveLeaves first (links_in part)
      → (images : List (List Row)) × (own : List Entry) × (addrs : List Addr) × LeafMade images own addrs × Drafted g old first books books' before after (links ++ aligned (links_in part) images) (leaves ++ images) (listed ++ addrs) (es ++ own)

  -- it is not, or not all of it
  abbrev pub StopsLeaf : StoreError → Type 0
  StopsLeaf e = (old : Option Stored) (first books : Books) (before : D) (links : List Link) (leaves : List (List Row)) (listed : List Addr)
      → Drafted g old first books mid before between links leaves listed es → AreLiveLeaves first (links_in part)
      → (images : List (List Row)) × (addrs : List Addr) × (captured' ≡ captured ++ addrs) × (e ≡ NoSpace → AreCutOf s held images) × LeavesStopped g old first books books' before after (links ++ aligned (links_in part) images) (leaves ++ images) (listed ++ addrs) e

  abbrev pub WritesLeaf : Result (Unit {0}) StoreError → Type 0
  WritesLeaf (Ok done) = MakesLeaf
  WritesLeaf (Err e) = StopsLeaf e
