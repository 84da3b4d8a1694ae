-- A leaf that was evicted, as it comes back: its rows, and below them what moved to the history.
use Rattle.std.specs.Prelude.{◌≡◌, ℕ, Bool, false, not, List, [], ◌∷◌, ◌++◌, filter, map, bytes_eq, if◌then◌else◌}
use Rattle.std.specs.List.{AllByRecursion}
use Rattle.std.specs.Option.{option_to_list}
use Rattle.item.specs.declared.Change.{Change}
use Rattle.stamp.specs.declared.Version.{Version}
use Rattle.kv_model.specs.History.{name_eq}
use Rattle.kv_model.specs.Holds.{Descends}
use Rattle.kv_model.specs.Machine.{of_some}
use Rattle.kv_model.specs.Ordered.{Older}
use Rattle.row_page.specs.Rows.{Row, RowFits, key_most}
use Rattle.reconcile.specs.Shows.{shown_at}
use Rattle.update_chain.specs.Updates.{unmarked_update}
use Rattle.reconcile.specs.Cells.{cell_version}
use Rattle.leaf_chains.specs.Slots.{chain_at}
use Rattle.reconcile.specs.declared.image.Moved.{Moved}
use Rattle.reconcile.specs.Moving.{versions_in}
use Rattle.leaf_frame.specs.Leaf.{HeldLeaf}

-- each version fits a row of its key
abbrev pub AllFit : List Moved → Type 0
AllFit moved = AllByRecursion (λ (m : Moved). RowFits [] key_most (m.key, cell_version m.version)) moved

-- of each key the row and what moved, newest first
abbrev pub AreNewestFirst : List Row → List Moved → Type 0
AreNewestFirst rows moved = (key : List ℕ) → Descends Older (option_to_list (shown_at key rows) ++ versions_in key moved)

-- ---- versions that are rows

-- the row of its key has its name
abbrev pub is_again : List Row → Moved → Bool
is_again rows m = of_some false (λ (v : Version Change). name_eq v.window.name m.version.window.name) (shown_at m.key rows)

-- without those that are rows
abbrev pub unlike : List Row → List Moved → List Moved
unlike rows moved = filter (λ m. not (is_again rows m)) moved

-- ---- a leaf without a page

-- it has of each key these versions, none of them marked
pub record HasVersions (leaf : HeldLeaf) (versions : List ℕ → List (Version Change)) : Type 0 where
  pub page : leaf.page ≡ []
  pub chains : (key : List ℕ) → chain_at key leaf.chains ≡ map unmarked_update (versions key)

-- with one more on top of those of this key
abbrev pub with_version : List ℕ → Version Change → (List ℕ → List (Version Change)) → List ℕ → List (Version Change)
with_version key v versions other = if bytes_eq key other then v ∷ versions other else versions other

-- with the rows on top
abbrev pub with_shown : List Row → (List ℕ → List (Version Change)) → List ℕ → List (Version Change)
with_shown rows versions key = option_to_list (shown_at key rows) ++ versions key
