-- Which versions are gathered.
use Rattle.std.specs.Prelude.{◌≡◌, ◌<◌, ℕ, Bool, List, find, Option, Some, None, option_and_then, option_map, slice_get}
use Rattle.std.specs.List.{Contains}
use Rattle.item.specs.declared.Change.{Change}
use Rattle.stamp.specs.declared.Version.{Version}
use Rattle.kv_model.specs.Captures.{CapturedIn}
use Rattle.kv_model.specs.History.{Table}
use Rattle.kv_model.specs.Holds.{Member}
use Rattle.kv_model.specs.Machine.{Checkpoint, Machine}
use Rattle.kv_model.specs.StoreLaws.{Held}
use Rattle.snapshot.specs.Past.{IsPast}
use Rattle.snapshot.specs.Sight.{Sight, is_seen, sight_at}
use Rattle.txn_table.specs.Checkpoints.{EndedIsSeen}
use Rattle.txn_table.specs.Tabled.{unended}
use Rattle.row_page.specs.Rows.{Row}
use Rattle.reconcile.specs.Held.{held_at, is_past, moved_of}
use Rattle.reconcile.specs.Shows.{shown_at}
use Rattle.leaf_frame.specs.Leaf.{HeldLeaf}
use Rattle.tree_dir.specs.declared.leaf.Framed.{Framed}
use Rattle.tree_dir.specs.declared.leaf.Leaf.{Leaf}
use Rattle.tree_dir.specs.Leaves.{leaf_under, leaves_of}
use Rattle.call_steps.specs.declared.frame.Frame.{Frame}
use Rattle.engine_world.specs.Leaves.{frame_in}
use Rattle.engine_world.specs.Stands.{Engine}
use Rattle.engine_world.specs.Worlds.{World}
use Rattle.engine.specs.declared.evicting.Horizon.{Horizon}
use Rattle.evict_step.specs.Kept.{records_in}
use Rattle.ckpt_content.specs.Finished.{tables_then}
use Rattle.hist_gather.specs.declared.source.Source.{Source}

-- what a snapshot and a horizon are to the machine at whose moment they are taken
pub record IsTaken (m : Machine) (s : Sight) (horizon : Horizon) : Type 0 where
  -- it sees each version of a transaction that has ended, and no other
  pub ended : EndedIsSeen m s
  pub past : (table : ℕ) (key : List ℕ) → IsPast m table key horizon.pin horizon.floor

-- what a leaf of the directory holds in its frame, if it is in one
abbrev pub held_by : Engine → Leaf → Option HeldLeaf
held_by e l = option_and_then (λ (framed : Framed). option_map (λ (f : Frame). f.leaf) (frame_in e.pieces framed.frame)) l.frame

abbrev pub sees : Sight → Version Change → Bool
sees s v = is_seen s v.window.name

-- of a key: what the snapshot sees of it below its newest version, down to the first one that is past
abbrev pub moved_at : Source → HeldLeaf → List ℕ → List (Version Change)
moved_at from held key = moved_of (sees from.snapshot.now.sight) (is_past from.horizon.pin from.horizon.floor) (held_at key held.page held.chains)

-- so of what the leaf of this id holds in its frame; of one in no frame what is kept of it
abbrev pub older_in : Source → ℕ → Option HeldLeaf → List ℕ → List (Version Change)
older_in from id None key = records_in from.kept.now id key
older_in from id (Some held) key = moved_at from held key

-- what is gathered of a key of a leaf
abbrev pub older_at : Source → Leaf → List ℕ → List (Version Change)
older_at from l key = older_in from l.id (held_by from.engine.now l) key

-- ---- the cell of a key

-- of a leaf with these rows on its block the newest version that the snapshot sees, if it is in a frame, or else its row
abbrev pub cell_in : Sight → List Row → Option HeldLeaf → List ℕ → Option (Version Change)
cell_in s rows None key = shown_at key rows
cell_in s rows (Some held) key = find (sees s) (held_at key held.page held.chains)

-- what sees all that has ended
abbrev pub ended_sight : Engine → Sight
ended_sight e = sight_at e.hub.txns.run e.hub.txns.next (unended e.hub.txns)

-- Of each key of the tables that stood as the checkpoint started these versions have, with the cell of the leaf in which it lies, what a read can want from the recorded oldest stamp on.
abbrev pub HaveTaken : World → Checkpoint → Engine → (ℕ → List ℕ → List (Version Change)) → Type 0
HaveTaken w c e versions = (t : Table) → Member t (tables_then w.machine c) → (l : Leaf) → Contains e.hub.dir.leaves l → l.table ≡ t.number → (key : List ℕ) → leaf_under t.number key e.hub.dir.leaves ≡ Some l
    → CapturedIn w.machine c t.number key (cell_in (ended_sight e) (w.shelf l.id) (held_by e l) key) (Held (versions t.number key))

-- ---- which versions of which keys: by table and key

-- of the leaves of a table
abbrev pub OfLeaves : Source → ℕ → List Leaf → ℕ → List ℕ → Version Change → Type 0
OfLeaves from number leaves table key v = (table ≡ number) × (l : Leaf) × Member l leaves × Member v (older_at from l key)

-- of the table at a place of the catalog
abbrev pub OfPlace : Source → ℕ → ℕ → List ℕ → Version Change → Type 0
OfPlace from place table key v = (t : Table) × (slice_get from.engine.now.hub.tables.tables place ≡ Some t) × OfLeaves from t.number (leaves_of t.number from.engine.now.hub.dir.leaves) table key v

-- of the first tables of it
abbrev pub OfPlaces : Source → ℕ → ℕ → List ℕ → Version Change → Type 0
OfPlaces from count table key v = (place : ℕ) × (place < count) × OfPlace from place table key v
