-- The record of a checkpoint: what it kept, and where its trees stand.
use Rattle.std.specs.Prelude.{◌≡◌, ◌≢◌, ◌⊎◌, ℕ, ◌+◌, ◌<◌, ◌≤◌, ◌^◌, IsTrue, List, [], ◌∷◌, ◌++◌, length}
use Rattle.std.specs.List.{flat_map, AllByRecursion}
use Rattle.std.specs.Int.{w8, w16, w32, w64}
use Rattle.item.specs.declared.formats.Format.{Format}
use Rattle.item.specs.declared.formats.Format.TheVariants.{S, U}
use Rattle.le_codec.specs.Fields.{le}
use Rattle.le_codec.specs.Images.{first_format}
use Rattle.le_codec.specs.Images.{framed}
use Rattle.kv_model.specs.History.{Table}
use Rattle.kv_model.specs.Content.{Snapshot}
use Rattle.row_page.specs.Rows.{is_below}
use Rattle.device_layout.specs.declared.link.Link.{Link}
use Rattle.stored.specs.Links.{link_text, LinkFits}

-- a tree: its level, 0 where its root is a leaf, and what leads to its root
pub record Root : Type 0 where
  pub level : ℕ
  pub link : Link

-- a table and its tree
pub record TableRoot : Type 0 where
  pub table : Table
  pub root : Root

pub record Record : Type 0 where
  pub sequence : ℕ
  pub run : ℕ
  pub oldest : ℕ
  pub stable : ℕ
  pub snapshot : Snapshot
  pub next_table : ℕ
  pub history : Root
  pub tables : List TableRoot

-- ---- the spelling

-- the letter of a format: S or u
abbrev pub letter : Format → ℕ
letter S = 83
letter U = 117

abbrev pub table_text : TableRoot → List ℕ
table_text t = le w32 t.table.number ++ le w8 (letter t.table.formats.key) ++ le w8 (letter t.table.formats.value) ++ le w8 t.root.level ++ le w8 (length t.table.name) ++ link_text t.root.link ++ t.table.name

abbrev pub snapshot_text : Snapshot → List ℕ
snapshot_text s = le w64 s.min ++ le w64 s.max ++ le w16 (length s.ids) ++ flat_map (le w64) s.ids

abbrev pub record_body : Record → List ℕ
record_body r = le w64 r.sequence ++ le w64 r.run ++ le w64 r.oldest ++ le w64 r.stable ++ snapshot_text r.snapshot ++ le w32 r.next_table ++ le w8 r.history.level ++ link_text r.history.link ++ flat_map table_text r.tables

abbrev pub record_image : Record → List ℕ
record_image r = framed 5 first_format (length r.tables) 0 (record_body r)

-- ---- what has a spelling

-- the ids ascend strictly, each from the least one to below max
abbrev pub IdsAscend : ℕ → ℕ → List ℕ → Type 0
IdsAscend least max [] = Unit {0}
IdsAscend least max (id ∷ ids) = (least ≤ id) × (id < max) × IdsAscend (id + 1) max ids

pub record SnapshotFits (s : Snapshot) : Type 0 where
  pub order : s.min ≤ s.max
  pub max : s.max < 2 ^ 64
  pub few : length s.ids ≤ 64
  pub ids : IdsAscend s.min s.max s.ids

pub record RootFits (r : Root) : Type 0 where
  pub level : r.level ≤ 60
  pub link : LinkFits r.link

-- a byte of a table's name: no control byte, no space, no colon
pub record IsNameByte (b : ℕ) : Type 0 where
  pub visible : 33 ≤ b
  pub delete : b ≢ 127
  pub colon : b ≢ 58
  pub byte : b < 256

pub record IsTableName (name : List ℕ) : Type 0 where
  pub some : 1 ≤ length name
  pub most : length name ≤ 128
  pub bytes : AllByRecursion (λ (b : ℕ). IsNameByte b) name

-- a table whose number is below the next one
pub record TableFits (next : ℕ) (t : TableRoot) : Type 0 where
  pub number : (1 ≤ t.table.number) × (t.table.number < next)
  pub name : IsTableName t.table.name
  pub root : RootFits t.root

-- the names ascend strictly
abbrev pub TablesClimb : List TableRoot → Type 0
TablesClimb [] = Unit {0}
TablesClimb (t ∷ []) = Unit {0}
TablesClimb (t ∷ u ∷ tables) = IsTrue (is_below t.table.name u.table.name) × TablesClimb (u ∷ tables)

-- a number stands once
abbrev pub NumbersOnce : List TableRoot → Type 0
NumbersOnce [] = Unit {0}
NumbersOnce (t ∷ tables) = AllByRecursion (λ (u : TableRoot). u.table.number ≢ t.table.number) tables × NumbersOnce tables

pub record IsRecord (r : Record) : Type 0 where
  pub sequence : r.sequence < 2 ^ 62
  pub run : (1 ≤ r.run) × (r.run ≤ r.sequence)
  pub oldest : r.oldest < 2 ^ 64
  pub stable : r.stable < 2 ^ 64
  -- 0 is unset
  pub stamps : (r.stable ≡ 0) ⊎ (r.oldest ≤ r.stable)
  pub snapshot : SnapshotFits r.snapshot
  pub next : r.next_table < 2 ^ 32
  pub history : RootFits r.history
  pub count : length r.tables ≤ 1024
  pub tables : AllByRecursion (λ (t : TableRoot). TableFits r.next_table t) r.tables
  pub climb : TablesClimb r.tables
  pub once : NumbersOnce r.tables
