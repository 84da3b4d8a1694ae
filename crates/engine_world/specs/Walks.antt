-- How far a walk over the leaves of a table is: which keys it has passed, and how many leaves are left.
use Rattle.std.specs.Prelude.{ℕ, Bool, false, ◌==◌, List, [], ◌∷◌, length, filter, Option, Some, None, if◌then◌else◌}
use Rattle.kv_model.specs.Rows.{Way, Up, Down}
use Rattle.kv_model.specs.RowLaws.{before_cut}
use Rattle.wt_calls.specs.Calls.{way_in}
use Rattle.tree_dir.specs.declared.leaf.Leaf.{Leaf}
use Rattle.tree_dir.specs.Leaves.{leaf_behind}
use Rattle.call_steps.specs.declared.stage.KeyCall.{KeyCall}
use Rattle.call_steps.specs.declared.stage.KeyCall.TheVariants.{Step}

-- ---- keys

-- of a range, the keys that come before a leaf on this way; these where there is no such leaf
abbrev pub before_leaf : Way → Option Leaf → (List ℕ → Bool) → (List ℕ → Bool) → List ℕ → Bool
before_leaf way None others within key = others key
before_leaf way (Some l) others within key = before_cut way l.entry.key within key

-- of a range, the keys that a walk has passed where it comes to a leaf
abbrev pub passed : Way → List Leaf → Leaf → (List ℕ → Bool) → List ℕ → Bool
passed Up leaves l within = before_cut Up l.entry.key within
passed Down leaves l within = before_leaf Down (leaf_behind l.id leaves) (λ key. false) within

-- and those that it has passed with the leaf
abbrev pub passed_with : Way → List Leaf → Leaf → (List ℕ → Bool) → List ℕ → Bool
passed_with Up leaves l within = before_leaf Up (leaf_behind l.id leaves) within within
passed_with Down leaves l within = before_cut Down l.entry.key within

-- ---- leaves

abbrev pub in_table : ℕ → List Leaf → List Leaf
in_table table leaves = filter (λ l. l.table == table) leaves

-- those behind the leaf of this id
abbrev pub all_behind : ℕ → List Leaf → List Leaf
all_behind id [] = []
all_behind id (l ∷ leaves) = if l.id == id then leaves else all_behind id leaves

-- those before it
abbrev pub all_ahead : ℕ → List Leaf → List Leaf
all_ahead id [] = []
all_ahead id (l ∷ leaves) = if l.id == id then [] else l ∷ all_ahead id leaves

-- how many leaves of the table are further on the way
abbrev pub leaves_on : Way → ℕ → ℕ → List Leaf → ℕ
leaves_on Up table id leaves = length (all_behind id (in_table table leaves))
leaves_on Down table id leaves = length (all_ahead id (in_table table leaves))

-- how many leaves a call may still go to from the leaf of this table and id
abbrev pub leaves_left : KeyCall → ℕ → ℕ → List Leaf → ℕ
leaves_left (Step cursor way) table id leaves = leaves_on (way_in way) table id leaves
leaves_left _ table id leaves = 0
