-- Leaves that were written since the last completed checkpoint.
use Rattle.std.specs.Prelude.{◌≡◌, ℕ, ◌+◌, ◌*◌, ◌/◌, ◌==◌, Bool, true, false, List, [], ◌∷◌, map, filter, Option, Some, None, is_some, if◌then◌else◌}
use Rattle.std.specs.List.{Contains, fold}
use Rattle.block_mgr.specs.declared.cell.Cell.{Cell}
use Rattle.block_mgr.specs.Cells.{fresh}
use Rattle.device_layout.specs.declared.addr.Addr.{Addr}
use Rattle.kv_model.specs.History.{Table}
use Rattle.kv_model.specs.Holds.{Member}
use Rattle.kv_model.specs.Machine.{of_some}
use Rattle.stored.specs.Blocks.{Block}
use Rattle.tree_dir.specs.declared.leaf.Leaf.{Leaf}
use Rattle.tree_write.specs.Captures.{AreDistinct}
use Rattle.ckpt_step.specs.declared.lives.Held.{Held}
use Rattle.ckpt_step.specs.declared.lives.Lone.{Lone}

-- those of the map that has them by offset
abbrev pub lone_of : ℕ × Held → Lone
lone_of e = record { leaf = e.1.leaf; addr = record { offset = e.0; size = e.1.size; sum = e.1.sum } }

abbrev pub lones_in : List (ℕ × Held) → List Lone
lones_in by_offset = map lone_of by_offset

-- the one whose block begins at an offset
abbrev pub lone_at : List Lone → ℕ → Option Lone
lone_at [] offset = None
lone_at (x ∷ lives) offset = if x.addr.offset == offset then Some x else lone_at lives offset

abbrev pub has_at : List Lone → ℕ → Bool
has_at lives offset = is_some (lone_at lives offset)

abbrev pub is_of : ℕ → Option Lone → Bool
is_of id o = of_some false (λ (x : Lone). x.leaf == id) o

-- a leaf of the directory is one of them: where its entry leads stands one of its id
abbrev pub is_live : List Lone → Leaf → Bool
is_live lives l = is_of l.id (lone_at lives l.entry.link.addr.offset)

-- no leaf of the table is
abbrev pub NoneLive : List Lone → List Leaf → ℕ → Type 0
NoneLive lives leaves table = (l : Leaf) → Contains leaves l → l.table ≡ table → is_live lives l ≡ false

-- where their blocks stand
abbrev pub addrs_in : List Lone → List Addr
addrs_in lives = map {A = Lone} (λ x. x.addr) lives

-- where those of these leaves stand
abbrev pub live_addrs : List Lone → List Leaf → List Addr
live_addrs lives leaves = map {A = Leaf} (λ l. l.entry.link.addr) (filter (is_live lives) leaves)

-- their blocks, whatever these have
abbrev pub block_of : Lone → Block
block_of x = record { place = x.addr; image = [] }

abbrev pub lone_blocks : List Lone → List Block
lone_blocks lives = map block_of lives

-- the cell at a unit, once the block of one was written there
abbrev pub with_lone : ℕ → Cell → Lone → Cell
with_lone u c x = if x.addr.offset == 8192 + 4096 * u then fresh (x.addr.size / 4096) else c

-- and those of all
abbrev pub with_lives : ℕ → Cell → List Lone → Cell
with_lives u c lives = fold (with_lone u) c lives

-- ---- those of other tables

-- the leaf is of none of these tables
abbrev pub IsOfOther : List Table → Leaf → Type 0
IsOfOther known l = (t : Table) → Member t known → l.table ≡ t.number → ⊥

-- those of them that are of leaves of other tables
pub record AreOfOthers (known : List Table) (leaves : List Leaf) (lives others : List Lone) : Type 0 where
  pub each : (x : Lone) → Member x others → Member x lives × ((l : Leaf) × Contains leaves l × (l.id ≡ x.leaf) × (l.entry.link.addr ≡ x.addr) × IsOfOther known l)
  pub all : (l : Leaf) → Contains leaves l → IsOfOther known l → is_live lives l ≡ true → is_live others l ≡ true
  pub distinct : AreDistinct (addrs_in lives) → AreDistinct (addrs_in others)

-- no block at these addresses is that of such a leaf
abbrev pub NoneOfOthers : List Table → List Leaf → List Lone → List Addr → Type 0
NoneOfOthers known leaves lives captured = (l : Leaf) → Contains leaves l → is_live lives l ≡ true → IsOfOther known l → (a : Addr) → Member a captured → a.offset ≡ l.entry.link.addr.offset → ⊥
