-- What a snapshot sees of a leaf in memory.
use Rattle.std.specs.Prelude.{◌≡◌, ℕ, List, Option, Some, None, if◌then◌else◌}
use Rattle.item.specs.declared.change.Change.{Change}
use Rattle.stamp.specs.declared.version.Version.{Version}
use Rattle.kv_model.specs.StoreLaws.{or_else}
use Rattle.row_page.specs.Rows.{Row}
use Rattle.leaf_rows.specs.Rows.{AreFit}
use Rattle.reconcile.specs.Shows.{shown_at}
use Rattle.snapshot.specs.Sight.{Sight, is_seen}
use Rattle.update_chain.specs.declared.update.Update.{Update}
use Rattle.leaf_chains.specs.Slots.{chain_at}
use Rattle.reconcile.specs.Capture.{captured}
use Rattle.leaf_frame.specs.Leaf.{HeldLeaf}

-- the version of a row, where the snapshot sees its name
abbrev pub seen_row : Sight → Option (Version Change) → Option (Version Change)
seen_row s None = None
seen_row s (Some v) = if is_seen s v.window.name then Some v else None

-- what is captured of a chain, or else what is seen of the row below it
abbrev pub captured_over : Sight → List Update → Option (Version Change) → Option (Version Change)
captured_over s chain row = or_else (captured s chain) (seen_row s row)

-- the rows have of each key what is captured of its chain over its row, and no other key
pub record IsCaptured (s : Sight) (leaf : HeldLeaf) (rows : List Row) : Type 0 where
  pub fit : AreFit rows
  pub shows : (key : List ℕ) → shown_at key rows ≡ captured_over s (chain_at key leaf.chains) (shown_at key leaf.page)
