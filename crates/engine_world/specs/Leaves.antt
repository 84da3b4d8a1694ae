-- The leaves of an engine, and what stands in the slots that a transaction wrote.
use Rattle.std.specs.Prelude.{◌≡◌, ◌≢◌, ◌⊎◌, ◌<◌, ◌≤◌, ◌+◌, ◌*◌, ◌^◌, ℕ, List, [], ◌++◌, length, Option, Some, None, option_and_then, option_map, slice_get, slice_index_or}
use Rattle.std.specs.List.{Contains}
use Rattle.std.specs.Option.{option_to_list}
use Rattle.stamp.specs.declared.Name.{Name}
use Rattle.kv_model.specs.History.{Table, Write, line}
use Rattle.kv_model.specs.Holds.{Descends, Member}
use Rattle.kv_model.specs.Machine.{Machine, of_some}
use Rattle.kv_model.specs.Ordered.{Older}
use Rattle.kv_model.specs.Refusals.{newest_durable}
use Rattle.row_page.specs.Rows.{Row}
use Rattle.reconcile.specs.Shows.{shown_at}
use Rattle.update_chain.specs.declared.update.Update.{Update}
use Rattle.update_chain.specs.EventLaws.{StandsFor}
use Rattle.leaf_chains.specs.declared.slot.KeyChain.{KeyChain}
use Rattle.leaf_chains.specs.Slots.{chain_at, key_at, slot_of}
use Rattle.tree_dir.specs.declared.leaf.Framed.{Framed}
use Rattle.tree_dir.specs.declared.leaf.Leaf.{Leaf}
use Rattle.tree_dir.specs.Leaves.{leaf_under}
use Rattle.call_steps.specs.declared.edit.Edit.{Edit}
use Rattle.call_steps.specs.declared.edit.Edit.TheVariants as edit
use Rattle.call_steps.specs.declared.frame.Frame.{Frame}
use Rattle.call_steps.specs.declared.frame.FramePiece.{FramePiece}
use Rattle.call_steps.specs.declared.written.WrittenKey.{WrittenKey}
use Rattle.call_steps.specs.Leaves.{chain_in}
use Rattle.call_steps.specs.Tables.{filled}
use Rattle.engine_world.specs.Worlds.{Records}

abbrev pub frame_in : List FramePiece → ℕ → Option Frame
frame_in pieces frame = option_and_then (λ (p : FramePiece). p.frame) (slice_get pieces frame)

abbrev pub slots_in : List FramePiece → ℕ → List KeyChain
slots_in pieces frame = of_some [] (λ (f : Frame). f.leaf.chains) (frame_in pieces frame)

-- the number of the table whose leaf is in the frame
abbrev pub table_at : List FramePiece → ℕ → ℕ
table_at pieces frame = of_some 0 (λ (f : Frame). f.table) (frame_in pieces frame)

abbrev pub generation_at : List FramePiece → ℕ → ℕ
generation_at pieces frame = of_some 0 (λ (p : FramePiece). p.generation) (slice_get pieces frame)

abbrev pub word_at : List ℕ → ℕ → ℕ
word_at states frame = slice_index_or states frame 0

-- the piece of a frame that its leaf has left
abbrev pub emptied : List FramePiece → ℕ → FramePiece
emptied pieces frame = record { generation = generation_at pieces frame + 1; frame = None }

-- its generation is one that there may be, and its state word is not behind it, also where the frame is locked
pub record FrameStands (pieces : List FramePiece) (states : List ℕ) (frame : ℕ) : Type 0 where
  pub below : generation_at pieces frame < 2 ^ 62
  pub word : 4 * generation_at pieces frame ≤ word_at states frame + 2

abbrev pub FramesStand : List FramePiece → List ℕ → Type 0
FramesStand pieces states = (frame : ℕ) → FrameStands pieces states frame

-- the frame that has the leaf of a key
abbrev pub frame_of : List Leaf → ℕ → List ℕ → Option ℕ
frame_of leaves table key = option_and_then (λ (l : Leaf). option_map (λ (f : Framed). f.frame) l.frame) (leaf_under table key leaves)

-- the leaf is in its frame, which knows it
pub record IsLaid (pieces : List FramePiece) (states : List ℕ) (l : Leaf) : Type 0 where
  pub framed : Framed
  pub placed : l.frame ≡ Some framed
  pub frame : Frame
  pub there : frame_in pieces framed.frame ≡ Some frame
  pub table : frame.table ≡ l.table
  pub id : frame.id ≡ l.id
  pub generation : generation_at pieces framed.frame ≡ framed.generation
  pub below : framed.generation < 2 ^ 62
  pub word : word_at states framed.frame ≡ filled framed.generation

-- the leaf is in a frame: its chains and rows stand for the keys that lie in it, and it has none of others
pub record LeafInFrame (m : Machine) (shelf : ℕ → List Row) (records : Records) (leaves : List Leaf) (pieces : List FramePiece) (states : List ℕ) (l : Leaf) : Type 0 where
  pub laid : IsLaid pieces states l
  pub keys : (key : List ℕ) → leaf_under l.table key leaves ≡ Some l → StandsFor m l.table key (chain_at key laid.frame.leaf.chains) (shown_at key laid.frame.leaf.page) []
  pub bare : (key : List ℕ) → leaf_under l.table key leaves ≢ Some l → (chain_at key laid.frame.leaf.chains ≡ []) × (shown_at key laid.frame.leaf.page ≡ None)
  -- a page with rows is that of the leaf's block
  pub lies : 1 ≤ length laid.frame.leaf.page → laid.frame.leaf.page ≡ shelf l.id
  -- the history keeps nothing of it
  pub none : (key : List ℕ) → records l.id key ≡ []

-- it is in none: so do the rows of its block, with what the history keeps of it
pub record LeafOnDevice (m : Machine) (shelf : ℕ → List Row) (records : Records) (leaves : List Leaf) (l : Leaf) : Type 0 where
  pub none : l.frame ≡ None
  pub keys : (key : List ℕ) → leaf_under l.table key leaves ≡ Some l → StandsFor m l.table key [] (shown_at key (shelf l.id)) (records l.id key)
  -- each of them older than the row and those before it
  pub ordered : (key : List ℕ) → leaf_under l.table key leaves ≡ Some l → Descends Older (option_to_list (shown_at key (shelf l.id)) ++ records l.id key)
  pub bare : (key : List ℕ) → leaf_under l.table key leaves ≢ Some l → (shown_at key (shelf l.id) ≡ None) × (records l.id key ≡ [])

abbrev pub LeafStands : Machine → (ℕ → List Row) → Records → List Leaf → List FramePiece → List ℕ → Leaf → Type 0
LeafStands m shelf records leaves pieces states l = LeafInFrame m shelf records leaves pieces states l ⊎ LeafOnDevice m shelf records leaves l

-- each table has a leaf
abbrev pub TablesBegun : List Table → List Leaf → Type 0
TablesBegun known leaves = (place : ℕ) (t : Table) → slice_get known place ≡ Some t → (l : Leaf) × Contains leaves l × (l.table ≡ t.number)

-- each leaf is of a table
abbrev pub LeavesOwned : List Table → List Leaf → Type 0
LeavesOwned known leaves = (l : Leaf) → Contains leaves l → (place : ℕ) × (t : Table) × (slice_get known place ≡ Some t) × (l.table ≡ t.number)

-- ---- what a transaction wrote

-- the key of this table has the slot that was noted, in the frame of its leaf
pub record IsSlotOf (leaves : List Leaf) (pieces : List FramePiece) (k : WrittenKey) (table : ℕ) (key : List ℕ) : Type 0 where
  pub home : frame_of leaves table key ≡ Some k.frame
  pub number : table_at pieces k.frame ≡ table
  pub slot : slot_of key (slots_in pieces k.frame) ≡ Some k.slot

-- the slots that were noted are those of the writes
pub record AreNoted (leaves : List Leaf) (pieces : List FramePiece) (writes : List Write) (keys : List WrittenKey) : Type 0 where
  pub noted : (w : Write) → Member w writes → (k : WrittenKey) × Member k keys × IsSlotOf leaves pieces k w.table w.key
  pub wrote : (k : WrittenKey) → Member k keys → (w : Write) × Member w writes × IsSlotOf leaves pieces k w.table w.key

-- the update has what was done to it; none is left of those that were taken out
abbrev pub HasEdit : Edit → Update → Type 0
HasEdit (edit.Mark stamp) u = u.prepared ≡ stamp
HasEdit (edit.Stamp commit durable) u = (u.version.window.commit ≡ commit) × ((u.version.window.durable ≡ durable) × (u.prepared ≡ 0))
HasEdit edit.Undo u = ⊥

-- each update of this name in the chain has it
abbrev pub AllHave : Edit → Name → List Update → Type 0
AllHave e name chain = (u : Update) → Member u chain → u.version.window.name ≡ name → HasEdit e u

-- it was done in the slots that were noted, but in the first ones that are left
abbrev pub EditedDownTo : Edit → Name → List FramePiece → List WrittenKey → ℕ → Type 0
EditedDownTo e name pieces keys left =
    (i : ℕ) (k : WrittenKey) → left ≤ i → slice_get keys i ≡ Some k → AllHave e name (chain_in (slots_in pieces k.frame) k.slot)

-- the durable stamp of the newest version that stands of the key in this slot
abbrev pub durable_under : Machine → List FramePiece → WrittenKey → ℕ
durable_under m pieces k = newest_durable (line m.history (table_at pieces k.frame) (key_at (slots_in pieces k.frame) k.slot))

-- the greatest durable stamp of a version that stands under the writes, but those in the first slots that are left
pub record OrderedDownTo (m : Machine) (pieces : List FramePiece) (writes : List Write) (keys : List WrittenKey) (prev left : ℕ) : Type 0 where
  pub covers : (i : ℕ) (k : WrittenKey) → left ≤ i → slice_get keys i ≡ Some k → durable_under m pieces k ≤ prev
  pub least : (prev ≡ 0) ⊎ ((w : Write) × Member w writes × (prev ≡ newest_durable (line m.history w.table w.key)))
