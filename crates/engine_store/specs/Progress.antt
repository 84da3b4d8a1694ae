-- How far the steps of a checkpoint that runs have come: which leaf is the next one, and how many are left.
use Rattle.std.specs.Prelude.{◌≡◌, ◌+◌, ◌&&◌, ◌==◌, ℕ, zero, suc, Bool, false, List, [], ◌∷◌, length, filter, reverse, if◌then◌else◌, nat_lt, not, Option, None, Some, Result, Ok, Err, option_and_then, option_map, slice_get}
use Rattle.wt_code.specs.declared.answers.Answer.{Answer}
use Rattle.wt_code.specs.declared.answers.Answer.TheVariants as answers
use Rattle.wt_code.specs.declared.refusals.Refusal.{Refusal}
use Rattle.kv_model.specs.CallLaws.{any_around}
use Rattle.kv_model.specs.Calls.{Around}
use Rattle.kv_model.specs.Decisions.{is_there}
use Rattle.kv_model.specs.History.{Table}
use Rattle.kv_model.specs.Machine.{Checkpoint, Machine, of_some}
use Rattle.kv_model.specs.Outside.{Stored}
use Rattle.row_page.specs.Rows.{is_below}
use Rattle.tree_dir.specs.declared.leaf.Leaf.{Leaf}
use Rattle.tree_dir.specs.Leaves.{leaf_behind, leaf_under, leaves_of}
use Rattle.tree_dir.specs.Ranges.{low_key}
use Rattle.engine_world.specs.Stands.{Engine}
use Rattle.engine.specs.Running.{IsRunning}
use Rattle.ckpt_content.specs.Finished.{tables_then}
use Rattle.engine_store.specs.declared.progress.Progress.{Progress}
use Rattle.engine_store.specs.declared.progress.Remains.{Remains}
use Rattle.engine_store.specs.declared.progress.Remains.TheVariants.{Left, End}
use Rattle.engine_store.specs.declared.progress.Underway.{Underway}

-- ---- the leaves that are left

-- the tables that stood as the checkpoint started, in the order in which they were made
abbrev pub stood : Machine → List Table
stood m = of_some [] (λ (c : Checkpoint). reverse (tables_then m c)) m.checkpoint

-- a leaf of the table whose low key is above this key
abbrev pub is_above : ℕ → List ℕ → Leaf → Bool
is_above table key l = (l.table == table) && is_below key l.entry.key

abbrev pub above_key : ℕ → List ℕ → List Leaf → List Leaf
above_key table key leaves = filter (is_above table key) leaves

-- how many leaves these tables have
abbrev pub leaves_in : List Table → List Leaf → ℕ
leaves_in [] leaves = 0
leaves_in (t ∷ later) leaves = length (leaves_of t.number leaves) + leaves_in later leaves

-- how many leaves are left from a place on: of its table the leaf that has the key and those above it, and each of the tables behind it
abbrev pub left_in : List Table → (place : ℕ) → (key : List ℕ) → List Leaf → ℕ
left_in [] place key leaves = 0
left_in (t ∷ later) zero key leaves = suc (length (above_key t.number key leaves)) + leaves_in later leaves
left_in (t ∷ later) (suc place) key leaves = left_in later place key leaves

abbrev pub left_at : Machine → List Leaf → Progress → ℕ
left_at m leaves p = left_in (stood m) p.table p.key leaves

-- of the checkpoint that runs, or of none
abbrev pub left_of : Machine → List Leaf → Option Progress → ℕ
left_of m leaves p = of_some 0 (left_at m leaves) p

-- a step would take a leaf: one is left, and the machine is up
abbrev pub has_left : Machine → ℕ → Bool
has_left m left = not (is_there m.fault) && nat_lt 0 left

-- ---- the next one

-- no leaf was taken
abbrev pub first_place : Progress
first_place = record { table = 0; key = [] }

-- at the leaf behind the next one, which has this low key; or at the next table
abbrev pub place_of : Progress → Option (List ℕ) → Progress
place_of p None = record { table = suc p.table; key = [] }
place_of p (Some key) = record { table = p.table; key = key }

-- the low key of the leaf behind the one of the table that has the key
abbrev pub low_behind : (table : ℕ) → (key : List ℕ) → List Leaf → Option (List ℕ)
low_behind table key leaves = option_and_then (λ (l : Leaf). low_key (leaf_behind l.id leaves)) (leaf_under table key leaves)

-- the next leaf is taken, where one is left
abbrev pub passed_in : List Table → List Leaf → Progress → Progress
passed_in tables leaves p = of_some p (λ (t : Table). place_of p (low_behind t.number p.key leaves)) (slice_get tables p.table)

abbrev pub passed : Machine → List Leaf → Progress → Progress
passed m leaves p = passed_in (stood m) leaves p

-- ---- what a store finds

-- that of the checkpoint that it has running
abbrev pub place_in : Option Underway → Option Progress
place_in running = option_map (λ (u : Underway). u.progress) running

-- in an engine
abbrev pub next_low_of : Engine → Progress → Option (List ℕ)
next_low_of e p = option_and_then (λ (t : Table). low_behind t.number p.key e.hub.dir.leaves) (slice_get e.hub.tables.tables p.table)

abbrev pub remains_of : Bool → Remains
remains_of left = if left then Left else End

-- It is told whether a leaf is left behind a step.
abbrev pub TellsLeft : ℕ → Remains → Type 0
TellsLeft left taking = taking ≡ remains_of (nat_lt 0 left)

-- the next leaf is taken
abbrev pub TakesOne : Machine → Engine → Underway → Underway → Result Remains Refusal → Type 0
TakesOne m e u u' (Err r) = u' ≡ u
TakesOne m e u u' (Ok taking) = (c : Checkpoint) → m.checkpoint ≡ Some c → IsRunning m c u.checkpoint
    → (u'.progress ≡ passed m e.hub.dir.leaves u.progress) × TellsLeft (left_at m e.hub.dir.leaves u'.progress) taking

-- ---- what a step rests on, and what it answers

-- It finds so many leaves that are left. It writes nothing, of which the device takes all.
abbrev pub around_step : ℕ → Around
around_step left = record (any_around false (record { eviction = None; calls = [] }) left) { MayTake = λ m storing. storing ≡ Stored; MayKeepOut = λ r. ⊥ }

abbrev pub remains_answer : Result Remains Refusal → Answer (List ℕ)
remains_answer (Ok Left) = answers.Left
remains_answer (Ok End) = answers.End
remains_answer (Err r) = answers.Refused r
