-- What a leaf in memory is seen as.
use Rattle.std.specs.Prelude.{ℕ, List, [], Option, Some, None, drop}
use Rattle.row_page.specs.Rows.{Row}
use Rattle.reconcile.specs.Shows.{shown_at}
use Rattle.update_chain.specs.FrameLaws.{durable_of}
use Rattle.update_chain.specs.Writing.{newest_of}
use Rattle.leaf_chains.specs.declared.slot.KeyChain.{KeyChain}

-- the rows of its page, and the chains of its keys
pub record HeldLeaf : Type 0 where
  pub page : List Row
  pub chains : List KeyChain

abbrev pub leaf_of : List Row → List KeyChain → HeldLeaf
leaf_of page chains = record { page = page; chains = chains }

-- the rows of a page that may not be there
abbrev pub rows_of : Option (List Row) → List Row
rows_of None = []
rows_of (Some rows) = rows

-- the durable stamp of what lies below the newest update in a slot: of the next one, or else of the key's row, or else 0
abbrev pub durable_under : List Row → Option KeyChain → ℕ
durable_under page None = 0
durable_under page (Some s) = durable_of (newest_of (drop 1 s.chain) (shown_at s.key page))
