-- Rows of one leaf that are read together, as so many calls of a cursor answer them one after the other.
use Rattle.std.specs.Prelude.{◌≡◌, ◌⊎◌, ◌<◌, ◌≤◌, ℕ, Bool, true, false, List, [], ◌∷◌, length, Option, Some, None, Result, Ok, Err, slice_get}
use Rattle.stamp.specs.declared.View.{View}
use Rattle.wt_code.specs.declared.answers.Answer.TheVariants as answers
use Rattle.wt_code.specs.declared.refusals.Refusal.{Refusal}
use Rattle.wt_code.specs.declared.refusals.Refusal.TheVariants as refusal
use Rattle.kv_model.specs.Calls.{NextRow}
use Rattle.kv_model.specs.Rows.{Way}
use Rattle.tree_dir.specs.declared.leaf.Framed.{Framed}
use Rattle.tree_dir.specs.declared.leaf.Leaf.{Leaf}
use Rattle.txn_table.specs.declared.phase.Phase.TheVariants as phase
use Rattle.txn_table.specs.Tabled.{phase_of}
use Rattle.update_chain.specs.Updates.{Gives, Conflicts}
use Rattle.leaf_frame.specs.Leaf.{HeldLeaf}
use Rattle.call_steps.specs.declared.frame.Frame.{Frame}
use Rattle.call_steps.specs.Looks.{IsNearestRow, NoRow, start_in}
use Rattle.call_steps.specs.State.{State, changed_at, placed}
use Rattle.call_steps.specs.Tables.{leaf_sought, row_sought}
use Rattle.engine_world.specs.Laws.{IsViewOf}
use Rattle.engine_world.specs.Leaves.{frame_in}
use Rattle.engine_world.specs.Stands.{Engine}
use Rattle.engine_world.specs.Worlds.{World}
use Rattle.engine.specs.Reads.{refused_first}
use Rattle.engine.specs.Whole.{MayCall}

-- one call after the other answers these rows, from world to world
abbrev pub RowsCalled : World → ℕ → ℕ → List ℕ → Way → List (List ℕ × List ℕ) → World → Type 0
RowsCalled w session cursor name way [] later = later ≡ w
RowsCalled w session cursor name way (row ∷ rows) later = (next : World) × MayCall w session (NextRow cursor name way) (answers.Row row.0 row.1) next × RowsCalled next session cursor name way rows later

-- a call answers this row, or there is none
abbrev pub RowCalled : Bool → World → ℕ → ℕ → List ℕ → Way → List (List ℕ × List ℕ) → World → Type 0
RowCalled true w session cursor name way rows later = (key value : List ℕ) × (rows ≡ (key, value) ∷ []) × MayCall w session (NextRow cursor name way) (answers.Row key value) later
RowCalled false w session cursor name way rows later = (rows ≡ []) × (later ≡ w)

-- each is the nearest row of the leaf behind the one before it
abbrev pub AreNearest : View → Way → Option (List ℕ) → HeldLeaf → List (List ℕ × List ℕ) → Type 0
AreNearest view way from leaf [] = Unit {0}
AreNearest view way from leaf (row ∷ rows) = IsNearestRow view way from leaf row.0 (Gives row.1) × AreNearest view way (Some row.0) leaf rows

-- where the way goes on behind them
abbrev pub start_behind : Option (List ℕ) → List (List ℕ × List ℕ) → Option (List ℕ)
start_behind from [] = from
start_behind from (row ∷ rows) = start_behind (Some row.0) rows

-- the cursor stands at this key
abbrev pub stands_at : ℕ → ℕ → List ℕ → State → State
stands_at cursor table key a = record a { cursors = changed_at a.cursors cursor (placed (Some (record { table = table; key = key }))) }

-- behind these rows it stands at the last one
abbrev pub moved_over : ℕ → ℕ → List (List ℕ × List ℕ) → State → State
moved_over cursor table [] a = a
moved_over cursor table (row ∷ rows) a = moved_over cursor table rows (stands_at cursor table row.0 a)

-- the way ends in the leaf, or the nearest key that is not absent is in conflict
abbrev pub NoneNearest : View → Way → Option (List ℕ) → HeldLeaf → Type 0
NoneNearest view way from leaf = NoRow view way from leaf ⊎ ((key : List ℕ) × (id : ℕ) × IsNearestRow view way from leaf key (Conflicts id))

-- so it is in the leaf at which the next row is sought, where that is in a frame
abbrev pub GivesNoRow : Engine → ℕ → ℕ → ℕ → Way → Type 0
GivesNoRow e session cursor table way =
    (a : State) (l : Leaf) (framed : Framed) (f : Frame) → slice_get e.sessions session ≡ Some a → cursor < length a.cursors
    → leaf_sought e.hub.dir.leaves table (row_sought way (start_in a.cursors cursor table)) ≡ Some l → l.frame ≡ Some framed → frame_in e.pieces framed.frame ≡ Some f
    → (view : View) × IsViewOf e.hub session view × NoneNearest view way (start_in a.cursors cursor table) f.leaf

-- ---- how the rows are read

-- these rows of the leaf at which the next one is sought, up to so many
pub record RowsAt (e : Engine) (session : ℕ) (a : State) (cursor table : ℕ) (way : Way) (most : ℕ) (rows : List (List ℕ × List ℕ)) : Type 0 where
  pub leaf : Leaf
  pub begins : leaf_sought e.hub.dir.leaves table (row_sought way (start_in a.cursors cursor table)) ≡ Some leaf
  pub framed : Framed
  pub placed : leaf.frame ≡ Some framed
  pub frame : Frame
  pub held : frame_in e.pieces framed.frame ≡ Some frame
  pub view : View
  pub lent : IsViewOf e.hub session view
  pub there : cursor < length a.cursors
  pub near : AreNearest view way (start_in a.cursors cursor table) frame.leaf rows
  pub ends : length rows < most → NoneNearest view way (start_behind (start_in a.cursors cursor table) rows) frame.leaf

-- none, where the cursor is not there, or the leaf at which the next row is sought is in no frame
abbrev pub NoneRead : Engine → State → ℕ → ℕ → Way → List (List ℕ × List ℕ) → Type 0
NoneRead e a cursor table way rows =
    (rows ≡ []) × ((length a.cursors ≤ cursor) ⊎ ((l : Leaf) × (leaf_sought e.hub.dir.leaves table (row_sought way (start_in a.cursors cursor table)) ≡ Some l) × (l.frame ≡ None)))

-- the frame that is to have the leaf has none, or the session has no transaction
abbrev pub LacksLeaf : Engine → ℕ → State → ℕ → ℕ → Way → Type 0
LacksLeaf e session a cursor table way =
    (l : Leaf) × (framed : Framed) × (leaf_sought e.hub.dir.leaves table (row_sought way (start_in a.cursors cursor table)) ≡ Some l) × (l.frame ≡ Some framed)
    × ((frame_in e.pieces framed.frame ≡ None) ⊎ (phase_of e.hub.txns session ≡ phase.Idle))

-- why they are not read: as the first event of a step refuses, or for want of memory; an engine that stands for a world has the frame and the transaction
abbrev pub NotRead : Engine → ℕ → State → ℕ → ℕ → Way → Refusal → Type 0
NotRead e session a cursor table way r =
    (refused_first e.hub a [] ≡ Some r)
    ⊎ ((refused_first e.hub a [] ≡ None)
    × (((leaf_sought e.hub.dir.leaves table (row_sought way (start_in a.cursors cursor table)) ≡ None) × (r ≡ refusal.NoTable))
    ⊎ ((r ≡ refusal.NoMemory) ⊎ LacksLeaf e session a cursor table way)))

-- how a read of rows went, of the session in this state
abbrev pub RowsRead : Engine → ℕ → State → ℕ → ℕ → Way → ℕ → Result (Unit {0}) Refusal → List (List ℕ × List ℕ) → Type 0
RowsRead e session a cursor table way most (Ok done) rows = (refused_first e.hub a [] ≡ None) × (NoneRead e a cursor table way rows ⊎ RowsAt e session a cursor table way most rows)
RowsRead e session a cursor table way most (Err r) rows = NotRead e session a cursor table way r
