-- Checkpoints without a history, and the trees of their tables.
use Rattle.std.specs.Prelude.{◌≡◌, ℕ, List, [], ◌∷◌}
use Rattle.std.specs.List.{AllByRecursion}
use Rattle.device_layout.specs.declared.slot.Slot.{Slot}
use Rattle.row_page.specs.Rows.{Row}
use Rattle.leaf_rows.specs.declared.marks.Marks.{Marks}
use Rattle.leaf_rows.specs.Contents.{seen_rows}
use Rattle.stored.specs.Records.{TableRoot, Record}
use Rattle.stored.specs.Tree.{join}
use Rattle.stored.specs.TableTree.{TableTree, Climbs}
use Rattle.stored.specs.HistoryTree.{HistoryTree}
use Rattle.stored.specs.Stored.{Stored}
use Rattle.device_leaf.specs.NoHistory.{no_root}
use Rattle.tree_open.specs.declared.place.TreePlace.{TreePlace}
use Rattle.tree_open.specs.declared.place.Upper.{Upper}
use Rattle.tree_open.specs.Trees.{InnerIs, HasTree, IsPlaceOf}

-- the history has no records
abbrev pub IsBare : Record → Type 0
IsBare r = r.history ≡ no_root

-- what a device with this record stores, whose tables and history have these trees
abbrev pub stored_with : Slot → Record → List TableTree → HistoryTree → Stored
stored_with slot r trees history = record { slot = slot; kept = r; trees = trees; history = history }

-- what a device with a bare one stores, whose tables have these trees
abbrev pub bare_stored : Slot → Record → List TableTree → Stored
bare_stored slot r trees = stored_with slot r trees (record { layers = []; leaves = [] ∷ [] })

-- the rows of a tree
abbrev pub tree_rows : TableTree → List Row
tree_rows t = join t.leaves

abbrev pub marks_of : Record → Marks
marks_of r = record { run = r.run; oldest = r.oldest; stable = r.stable; min = r.snapshot.min; max = r.snapshot.max }

-- the versions that an opening keeps: the record's snapshot sees their names, and they are durable at its stable stamp
abbrev pub kept_of : Record → List Row → List Row
kept_of r rows = seen_rows (marks_of r) r.snapshot.ids rows

-- the device has a tree for each table
abbrev pub HaveTrees : List ℕ → List TableRoot → List TableTree → Type 0
HaveTrees bytes [] [] = Unit {0}
HaveTrees bytes [] (tree ∷ trees) = ⊥
HaveTrees bytes (t ∷ tables) [] = ⊥
HaveTrees bytes (t ∷ tables) (tree ∷ trees) = HasTree bytes t.root tree × HaveTrees bytes tables trees

-- the device has, for each table, what its tree has above its leaves
abbrev pub HaveUppers : List ℕ → List TableRoot → List Upper → Type 0
HaveUppers bytes [] [] = Unit {0}
HaveUppers bytes [] (u ∷ uppers) = ⊥
HaveUppers bytes (t ∷ tables) [] = ⊥
HaveUppers bytes (t ∷ tables) (u ∷ uppers) = InnerIs bytes t.root u.entries.items u.addrs.items × HaveUppers bytes tables uppers

-- the keys of each tree's entries ascend
abbrev pub AllClimb : List Upper → Type 0
AllClimb uppers = AllByRecursion (λ (u : Upper). Climbs u.entries.items) uppers

-- each place is that of a table's tree
abbrev pub ArePlaces : List TreePlace → List TableRoot → List TableTree → Type 0
ArePlaces [] [] [] = Unit {0}
ArePlaces (p ∷ places) (t ∷ tables) (tree ∷ trees) = (p.root ≡ t.root) × IsPlaceOf p tree × ArePlaces places tables trees
ArePlaces _ _ _ = ⊥
