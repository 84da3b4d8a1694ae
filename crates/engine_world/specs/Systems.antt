-- What the opening of a session, a create, a set, a checkpoint in one go and a failed write of the device leave of an engine that stands for a world, and with what an engine starts.
use Rattle.std.specs.Prelude.{◌≡◌, ◌≢◌, ◌<◌, ◌≤◌, ◌+◌, ℕ, false, List, [], ◌∷◌, ◌++◌, ◌⊎◌, length, drop, map, reverse, Option, None, Some, Ok, slice_set}
use Rattle.std.specs.List.{Contains}
use Rattle.std.specs.Option.{option_to_list}
use Rattle.failure.specs.declared.Fault.{Fault}
use Rattle.item.specs.declared.Change.{Change}
use Rattle.item.specs.declared.Formats.{Formats}
use Rattle.stamp.specs.declared.Version.{Version}
use Rattle.kv_model.specs.AgreementLaws.{head_of}
use Rattle.kv_model.specs.Content.{Content, base, descending, start, table_lt}
use Rattle.kv_model.specs.History.{Table, line}
use Rattle.kv_model.specs.Machine.{Machine, Checkpoint, OpenSession, CreateTable, SetStamps, CheckpointStart, CheckpointFinish, CheckpointDrop, GoDown, after, finished}
use Rattle.kv_model.specs.Refusals.{set_rules, stamp_of}
use Rattle.kv_model.specs.Regular.{IsRegular}
use Rattle.stored.specs.Links.{nowhere}
use Rattle.stored.specs.TableTree.{Entry}
use Rattle.tree_dir.specs.declared.leaf.Leaf.{Leaf}
use Rattle.tree_dir.specs.Leaves.{Directory, HasTable, IsDirectory, changed, in_frame, leaf_under}
use Rattle.row_page.specs.Rows.{Row}
use Rattle.reconcile.specs.Shows.{shown_at}
use Rattle.update_chain.specs.declared.update.Update.{Update}
use Rattle.update_chain.specs.Updates.{unmarked_update}
use Rattle.leaf_chains.specs.Slots.{chain_at}
use Rattle.snapshot.specs.Matters.{NoneResolves}
use Rattle.ts_rules.specs.Rules.{answer_by, raised}
use Rattle.txn_table.specs.Tabled.{fresh, one_more}
use Rattle.catalog.specs.Known.{Known, AreTables}
use Rattle.catalog.specs.Creates.{IsCreated, asked}
use Rattle.catalog.specs.declared.created.Created.TheVariants.{New}
use Rattle.call_steps.specs.declared.frame.FramePiece.{FramePiece}
use Rattle.call_steps.specs.State.{opened}
use Rattle.call_steps.specs.Tables.{filled}
use Rattle.engine_world.specs.Leaves.{FramesStand, IsLaid, LeavesOwned, TablesBegun, frame_in, generation_at}
use Rattle.engine_world.specs.Stands.{Engine, Stands}
use Rattle.engine_world.specs.Worlds.{Records, World, Resting}

-- a session more, which rests
abbrev pub with_opened : Engine → Engine
with_opened e = record e { hub = record e.hub { txns = one_more e.hub.txns }; sessions = e.sessions ++ opened ∷ [] }

abbrev pub OpensGo : Type 0
OpensGo = (e : Engine) (w : World) → Stands e w → Stands (with_opened e) (record w { machine = after w.machine OpenSession; sessions = w.sessions ++ Resting ∷ [] })

-- the two stamps are raised
abbrev pub SetsGo : Type 0
SetsGo = (e : Engine) (w : World) (oldest stable : Option ℕ) → Stands e w → answer_by (set_rules e.hub.stamps.oldest e.hub.stamps.stable oldest stable) ≡ Ok tt
    → Stands (record e { hub = record e.hub { stamps = raised e.hub.stamps oldest stable } }) (record w { machine = after w.machine (SetStamps (stamp_of oldest) (stamp_of stable)) })

-- the entry of the only leaf of a table that has just been made: it has all keys, and no block
abbrev pub first_entry : Entry
first_entry = record { key = []; link = nowhere }

-- the table is in the directory, with a leaf of this id, which is in this frame at this generation
pub record HasFirstLeaf (old new : Directory) (table id frame generation : ℕ) : Type 0 where
  pub between : Directory
  pub added : HasTable old between table (first_entry ∷ []) (id ∷ [])
  pub placed : new ≡ record between { leaves = changed id (in_frame (Some (record { frame = frame; generation = generation }))) between.leaves }

-- the piece of that leaf
abbrev pub first_piece : ℕ → Table → ℕ → FramePiece
first_piece generation t id = record { generation = generation; frame = Some (record { table = t.number; id = id; leaf = record { page = []; chains = [] } }) }

-- a table more, with one leaf, which is empty, in a frame that had none
abbrev pub with_table : Engine → Known → Directory → Table → ℕ → ℕ → Engine
with_table e known dir t id frame =
    record e { hub = record e.hub { tables = known; dir = dir }; pieces = slice_set e.pieces frame (first_piece (generation_at e.pieces frame) t id); states = slice_set e.states frame (filled (generation_at e.pieces frame)) }

abbrev pub CreatesGo : Type 0
CreatesGo = (e : Engine) (w : World) (name : List ℕ) (formats : Formats) (known : Known) (dir : Directory) (place id frame : ℕ) → Stands e w
    → IsCreated e.hub.tables (asked e.hub.tables name formats) known (New place) → AreTables known
    → HasFirstLeaf e.hub.dir dir (asked e.hub.tables name formats).number id frame (generation_at e.pieces frame) → IsDirectory dir
    → frame_in e.pieces frame ≡ None → frame < length e.pieces → frame < length e.states
    → Stands (with_table e known dir (asked e.hub.tables name formats) id frame) (record w { machine = after w.machine (CreateTable (asked e.hub.tables name formats)) })

-- a frame more, which has no leaf
abbrev pub with_frame : Engine → Engine
with_frame e = record e { pieces = e.pieces ++ record { generation = 0; frame = None } ∷ []; states = e.states ++ 0 ∷ [] }

-- nobody sees it
abbrev pub FramesGrow : Type 0
FramesGrow = (e : Engine) (w : World) → Stands e w → Stands (with_frame e) w

-- a checkpoint starts and finishes, with nobody between
abbrev pub checkpointed : Machine → Machine
checkpointed m = after (after m CheckpointStart) CheckpointFinish

-- Each event of a checkpoint changes nothing of the engine: it starts,
abbrev pub CheckpointsStart : Type 0
CheckpointsStart = (e : Engine) (w : World) → Stands e w → w.machine.checkpoint ≡ None → NoneResolves w.machine → Stands e (record w { machine = after w.machine CheckpointStart })

-- is finished,
abbrev pub CheckpointsFinish : Type 0
CheckpointsFinish = (e : Engine) (w : World) (c : Checkpoint) → Stands e w → w.machine.checkpoint ≡ Some c → Stands e (record w { machine = finished w.machine c })

-- or ends without having been finished.
abbrev pub CheckpointsDrop : Type 0
CheckpointsDrop = (e : Engine) (w : World) → Stands e w → Stands e (record w { machine = after w.machine CheckpointDrop })

-- a checkpoint in one go changes nothing of the engine
abbrev pub CheckpointsGo : Type 0
CheckpointsGo = (e : Engine) (w : World) → Stands e w → w.machine.checkpoint ≡ None → NoneResolves w.machine → Stands e (record w { machine = checkpointed w.machine })

-- a write or sync of the device failed; the newest fault is told
abbrev pub with_fault : Engine → Fault → Engine
with_fault e fault = record e { hub = record e.hub { fault = Some fault } }

abbrev pub DownsGo : Type 0
DownsGo = (e : Engine) (w : World) (fault : Fault) → Stands e w → Stands (with_fault e fault) (record w { machine = after w.machine (GoDown fault) })

-- ---- the start

-- chain and row have the versions of a line, and none of them is marked
pub record IsFirstOf (versions : List (Version Change)) (chain : List Update) (row : Option (Version Change)) : Type 0 where
  pub above : List (Version Change)
  pub chain_is : chain ≡ map unmarked_update above
  pub all : versions ≡ above ++ option_to_list row

-- the row is the newest of these versions, newest first, and these are the older ones
pub record AreNewest (versions : List (Version Change)) (row : Option (Version Change)) (older : List (Version Change)) : Type 0 where
  pub newest : row ≡ head_of versions
  pub others : older ≡ drop 1 versions

-- the leaf is in its frame, with the versions that the content keeps of the keys that lie in it, and none of others; the history keeps nothing of it
pub record StartsInFrame (c : Content) (shelf : ℕ → List Row) (records : Records) (leaves : List Leaf) (pieces : List FramePiece) (states : List ℕ) (l : Leaf) : Type 0 where
  pub laid : IsLaid pieces states l
  pub keys : (key : List ℕ) → leaf_under l.table key leaves ≡ Some l → IsFirstOf (line (base c) l.table key) (chain_at key laid.frame.leaf.chains) (shown_at key laid.frame.leaf.page)
  pub bare : (key : List ℕ) → leaf_under l.table key leaves ≢ Some l → (chain_at key laid.frame.leaf.chains ≡ []) × (shown_at key laid.frame.leaf.page ≡ None)
  -- a page with rows is that of the leaf's block
  pub lies : 1 ≤ length laid.frame.leaf.page → laid.frame.leaf.page ≡ shelf l.id
  pub none : (key : List ℕ) → records l.id key ≡ []

-- it is in none: the rows of its block are the newest of those versions, and the history keeps the older ones
pub record StartsOnDevice (c : Content) (shelf : ℕ → List Row) (records : Records) (leaves : List Leaf) (l : Leaf) : Type 0 where
  pub none : l.frame ≡ None
  pub keys : (key : List ℕ) → leaf_under l.table key leaves ≡ Some l → AreNewest (line (base c) l.table key) (shown_at key (shelf l.id)) (records l.id key)
  pub bare : (key : List ℕ) → leaf_under l.table key leaves ≢ Some l → (shown_at key (shelf l.id) ≡ None) × (records l.id key ≡ [])

abbrev pub LeafStarts : Content → (ℕ → List Row) → Records → List Leaf → List FramePiece → List ℕ → Leaf → Type 0
LeafStarts c shelf records leaves pieces states l = StartsInFrame c shelf records leaves pieces states l ⊎ StartsOnDevice c shelf records leaves l

-- an engine that begins on this content, without a session
pub record Begins (c : Content) (shelf : ℕ → List Row) (records : Records) (e : Engine) : Type 0 where
  pub fault : e.hub.fault ≡ None
  pub stamps : e.hub.stamps ≡ record { oldest = c.oldest; stable = c.stable }
  pub txns : e.hub.txns ≡ fresh (c.run + 1) 0
  pub catalog : AreTables e.hub.tables
  pub tables : reverse e.hub.tables.tables ≡ descending table_lt c.tables
  pub dir : IsDirectory e.hub.dir
  pub begun : TablesBegun e.hub.tables.tables e.hub.dir.leaves
  pub owned : LeavesOwned e.hub.tables.tables e.hub.dir.leaves
  pub leaves : (l : Leaf) → Contains e.hub.dir.leaves l → LeafStarts c shelf records e.hub.dir.leaves e.pieces e.states l
  -- and nothing of a leaf that was never made
  pub unused : (id : ℕ) → e.hub.dir.next ≤ id → (key : List ℕ) → records id key ≡ []
  pub frames : FramesStand e.pieces e.states
  pub sessions : e.sessions ≡ []
  pub systems : map (λ x. None) e.systems ≡ e.systems

-- the machine that an opening makes, with nobody at work
abbrev pub first_world : Content → (ℕ → List Row) → Records → Engine → World
first_world c shelf records e = record { machine = start c; sessions = []; systems = map (λ x. None) e.systems; shelf = shelf; records = records; again = λ session. false }

abbrev pub EnginesStart : Type 0
EnginesStart = (c : Content) (shelf : ℕ → List Row) (records : Records) (e : Engine) → IsRegular c → Begins c shelf records e → Stands e (first_world c shelf records e)
