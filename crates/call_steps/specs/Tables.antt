-- Where the leaf of a call is.
use Rattle.std.specs.Prelude.{ℕ, ◌+◌, ◌*◌, ◌%◌, ◌^◌, List, [], Option, Some, None, option_map, option_and_then, slice_get}
use Rattle.kv_model.specs.History.{Table}
use Rattle.kv_model.specs.Machine.{of_some}
use Rattle.kv_model.specs.Rows.{Way, Up, Down}
use Rattle.tree_dir.specs.declared.leaf.Framed.{Framed}
use Rattle.tree_dir.specs.declared.leaf.Leaf.{Leaf}
use Rattle.tree_dir.specs.Leaves.{leaf_ahead, leaf_behind, leaf_last, leaf_under}
use Rattle.catalog.specs.Known.{Known, place_of}
use Rattle.wt_calls.specs.Calls.{way_in}
use Rattle.call_steps.specs.declared.stage.KeyCall.{KeyCall}
use Rattle.call_steps.specs.declared.stage.KeyCall.TheVariants.{Step}
use Rattle.call_steps.specs.declared.stage.Stage.{Stage}
use Rattle.call_steps.specs.declared.stage.Stage.TheVariants as stage
use Rattle.call_steps.specs.declared.stage.Target.{Target}
use Rattle.call_steps.specs.Looks.{start_in}
use Rattle.call_steps.specs.State.{State}

-- the state words of a frame at a generation, which is below 2 ^ 62: without a leaf, and with one
abbrev pub empty : ℕ → ℕ
empty generation = 4 * (generation % 2 ^ 62)

abbrev pub filled : ℕ → ℕ
filled generation = 4 * (generation % 2 ^ 62) + 1

-- a leaf that is in a frame
abbrev pub target_in : Leaf → Option Target
target_in l = option_map (λ (f : Framed). record { table = l.table; leaf = l.id; frame = f.frame; word = filled f.generation }) l.frame

-- the key at which a row is sought on this way: from the start on, or from the end of the table
abbrev pub row_sought : Way → Option (List ℕ) → Option (List ℕ)
row_sought Up start = Some (of_some [] (λ key. key) start)
row_sought Down start = start

-- the key at which a call begins in a table; none: at the end
abbrev pub sought : KeyCall → State → ℕ → Option (List ℕ)
sought (Step cursor way) s table = row_sought (way_in way) (start_in s.cursors cursor table)
sought _ s table = Some s.key

abbrev pub leaf_sought : List Leaf → ℕ → Option (List ℕ) → Option Leaf
leaf_sought leaves table None = leaf_last table leaves
leaf_sought leaves table (Some key) = leaf_under table key leaves

-- the leaf at which a call begins in a table
abbrev pub leaf_for : List Leaf → KeyCall → State → Table → Option Leaf
leaf_for leaves call s t = leaf_sought leaves t.number (sought call s t.number)

-- the number of the table of a name
abbrev pub number_of : Known → List ℕ → Option ℕ
number_of known name = option_and_then (λ place. option_map (λ (t : Table). t.number) (slice_get known.tables place)) (place_of name known.tables)

-- the stage of a call at a leaf: it has to be loaded where it is in no frame
abbrev pub stage_by : KeyCall → Leaf → Option Target → Stage
stage_by call l None = stage.Fill call (record { table = l.table; leaf = l.id })
stage_by call l (Some target) = stage.Publish call target

abbrev pub stage_for : KeyCall → Leaf → Stage
stage_for call l = stage_by call l (target_in l)

-- that at the leaf at which it begins
abbrev pub stage_of : Known → List Leaf → KeyCall → State → Option Stage
stage_of known leaves call s =
    option_map (stage_for call) (option_and_then (leaf_for leaves call s) (option_and_then (λ place. slice_get known.tables place) (place_of s.name known.tables)))

-- ---- further on

-- the next leaf on this way
abbrev pub leaf_on : Way → ℕ → List Leaf → Option Leaf
leaf_on Up id leaves = leaf_behind id leaves
leaf_on Down id leaves = leaf_ahead id leaves

-- the leaf to which a call goes on; one for a key goes to none
abbrev pub next_for : KeyCall → ℕ → List Leaf → Option Leaf
next_for (Step cursor way) id leaves = leaf_on (way_in way) id leaves
next_for _ id leaves = None
