-- What a snapshot sees of the chains of a leaf.
use Rattle.std.specs.Prelude.{◌≡◌, ℕ, List, [], ◌∷◌, Option, Some, None, if◌then◌else◌}
use Rattle.std.specs.List.{AllByRecursion}
use Rattle.item.specs.declared.Change.{Change}
use Rattle.stamp.specs.declared.Version.{Version}
use Rattle.snapshot.specs.Sight.{Sight, is_seen}
use Rattle.update_chain.specs.declared.update.Update.{Update}
use Rattle.row_page.specs.Rows.{Row, RowFits, key_most}
use Rattle.leaf_rows.specs.Rows.{AreFit}
use Rattle.reconcile.specs.Shows.{shown_at}
use Rattle.leaf_chains.specs.declared.slot.KeyChain.{KeyChain}
use Rattle.leaf_chains.specs.Slots.{chain_at}
use Rattle.reconcile.specs.Cells.{cell_version}

-- the newest version of a chain whose name the snapshot sees
abbrev pub captured : Sight → List Update → Option (Version Change)
captured s [] = None
captured s (u ∷ older) = if is_seen s u.version.window.name then Some u.version else captured s older

-- the rows have of each key what is captured of its chain, and no other key
pub record IsCaptured (s : Sight) (chains : List KeyChain) (rows : List Row) : Type 0 where
  pub fit : AreFit rows
  pub shows : (key : List ℕ) → shown_at key rows ≡ captured s (chain_at key chains)

-- each update of the chain fits a row of this key
abbrev pub ChainFits : List ℕ → List Update → Type 0
ChainFits key chain = AllByRecursion (λ (u : Update). RowFits [] key_most (key, cell_version u.version)) chain

-- and so each key's
abbrev pub ChainsFit : List KeyChain → Type 0
ChainsFit chains = (key : List ℕ) → ChainFits key (chain_at key chains)
