-- Blocks that are on the device, captured one after the other.
use Rattle.std.specs.Prelude.{◌≡◌, ◌⊎◌, ◌+◌, ◌*◌, ◌/◌, ◌==◌, ℕ, true, List, [], ◌∷◌, map, Option, if◌then◌else◌}
use Rattle.std.specs.List.{fold, AllByRecursion}
use Rattle.disk_model.specs.Crash.{Keeps, LeavesOnly}
use Rattle.disk_model.specs.declared.disk.Disk.{Ghosts}
use Rattle.block_mgr.specs.declared.cell.Cell.{Cell}
use Rattle.block_mgr.specs.Blocks.{Books, Has, HasLive}
use Rattle.block_mgr.specs.Cells.{AreUnits, cell_at, nothing}
use Rattle.device_layout.specs.declared.addr.Addr.{Addr}
use Rattle.wt_code.specs.declared.store_error.StoreError.{StoreError}
use Rattle.wt_code.specs.declared.store_error.StoreError.TheVariants.{Down}
use Rattle.stored.specs.Blocks.{Block, IsAddressed, Holds}
use Rattle.stored.specs.Stored.{Stored}
use Rattle.checkpoint_core.specs.Stands.{Stands, AreInUse}
use Rattle.checkpoint_core.specs.Finishes.{IsOld}
use Rattle.tree_write.specs.Sizes.{PlacesAll}

-- ---- the books

-- blocks may be written: the checkpoint before stands, and no named one has a block
pub record MayWrite (seen : List ℕ) (images : List ℕ → Type 0) (books : Books) (old : Option Stored) : Type 0 where
  pub stands : Stands seen images books old
  pub units : AreUnits books.cells books.space
  pub unnamed : (u : ℕ) → (cell_at books.cells u).names ≡ 0

-- what the live tree had at first it still has
abbrev pub StaysLive : Books → Books → Type 0
StaysLive first books = (at n : ℕ) → HasLive first.cells at n → HasLive books.cells at n

-- the address leads to where no block began
pub record IsPlaced (books : Books) (a : Addr) : Type 0 where
  pub unit : ℕ
  pub units : ℕ
  pub offset : a.offset ≡ 8192 + 4096 * unit
  pub size : a.size ≡ 4096 * units
  pub none : cell_at books.cells unit ≡ nothing

-- a new block, or one that the live tree had at first
abbrev pub IsNewOrLive : Books → Books → Addr → Type 0
IsNewOrLive first books a = IsPlaced books a ⊎ HasLive first.cells a.offset a.size

-- the cell at a unit, once the running checkpoint has captured the block at an address
abbrev pub with_addr : ℕ → Cell → Addr → Cell
with_addr u c a =
    if a.offset == 8192 + 4096 * u then record { units = a.size / 4096; is_live = true; is_running = true; is_last = c.is_last; names = 0 } else c

-- and once it has captured all of these
abbrev pub with_addrs : ℕ → Cell → List Addr → Cell
with_addrs u c addrs = fold (with_addr u) c addrs

-- ---- the blocks

abbrev pub places_of : List Block → List Addr
places_of blocks = map {A = Block} (λ b. b.place) blocks

-- only what the live tree had at first stands twice among the blocks
abbrev pub AreOnce : Books → List Block → Type 0
AreOnce first [] = Unit {0}
AreOnce first (b ∷ blocks) = AllByRecursion (λ (c : Block). c.place.offset ≡ b.place.offset → HasLive first.cells c.place.offset c.place.size) blocks × AreOnce first blocks

-- no two of the addresses begin at one place
abbrev pub AreDistinct : List Addr → Type 0
AreDistinct [] = Unit {0}
AreDistinct (a ∷ addrs) = AllByRecursion (λ (x : Addr). x.offset ≡ a.offset → ⊥) addrs × AreDistinct addrs

-- no write or sync failed: what is read afterwards is known
abbrev pub IsSafe : StoreError → Type 0
IsSafe (Down fault) = ⊥
IsSafe e = Unit {0}

-- first: the books of an earlier moment, or books
module _ {D : Type 0} (g : Ghosts D) (old : Option Stored) (first : Books) (blocks : List Block) (sizes : List ℕ) (books books' : Books) (before after : D) where
  -- the blocks are on the device, and captured, in turn; sizes: of those that were written
  pub record Captures : Type 0 where
    pub may : MayWrite (g.seen after) (g.may_leave after) books' old
    pub left : LeavesOnly g before after (IsOld (g.may_leave before) old)
    pub images : (c : List ℕ) → g.may_leave after c → IsOld (g.may_leave before) old c
    pub addressed : AllByRecursion (λ (b : Block). IsAddressed b) blocks
    pub holds : Holds (g.seen after) blocks
    pub in_use : AreInUse books'.cells blocks
    pub each : AllByRecursion (λ (b : Block). IsNewOrLive first books b.place) blocks
    pub once : AreOnce first blocks
    pub cells : (u : ℕ) → cell_at books'.cells u ≡ with_addrs u (cell_at books.cells u) (places_of blocks)
    pub used : (at n : ℕ) → Has books.cells at n → Has books'.cells at n
    pub live : StaysLive books books'
    pub keeps : Keeps (Has books.cells) (g.seen before) (g.seen after)
    pub places : PlacesAll books.space (g.capacity before) sizes books'.space
