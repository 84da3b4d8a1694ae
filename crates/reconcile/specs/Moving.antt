-- Versions that move to the history.
use Rattle.std.specs.Prelude.{◌≡◌, ◌⊎◌, ℕ, true, bytes_eq, List, map, filter}
use Rattle.item.specs.declared.Change.{Change}
use Rattle.stamp.specs.declared.Version.{Version}
use Rattle.kv_model.specs.Holds.{Descends}
use Rattle.row_page.specs.Rows.{is_below}
use Rattle.reconcile.specs.declared.image.Moved.{Moved}

-- the versions of a key among those that move
abbrev pub versions_in : List ℕ → List Moved → List (Version Change)
versions_in key moved = map {A = Moved} (λ m. m.version) (filter (λ m. bytes_eq m.key key) moved)

-- the second is of the first one's key, or of a greater one
abbrev pub NotBelow : Moved → Moved → Type 0
NotBelow n m = (m.key ≡ n.key) ⊎ (is_below m.key n.key ≡ true)

-- by key in ascending order
abbrev pub InKeyOrder : List Moved → Type 0
InKeyOrder moved = Descends NotBelow moved
