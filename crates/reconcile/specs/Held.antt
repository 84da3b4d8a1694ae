-- What a leaf holds of a key, and what of it is written and what moves.
use Rattle.std.specs.Prelude.{◌≡◌, ℕ, Bool, true, ◌&&◌, nat_le, List, [], ◌++◌, map, filter, find, drop, Option, Some, None}
use Rattle.std.specs.Option.{option_to_list}
use Rattle.std.specs.Borrow.{Bor}
use Rattle.item.specs.declared.Change.{Change}
use Rattle.stamp.specs.declared.Name.{Name}
use Rattle.stamp.specs.declared.Window.{Window}
use Rattle.stamp.specs.declared.Version.{Version}
use Rattle.kv_model.specs.History.{down_to}
use Rattle.row_page.specs.Rows.{Row}
use Rattle.leaf_rows.specs.Rows.{AreFit}
use Rattle.reconcile.specs.Shows.{shown_at}
use Rattle.snapshot.specs.Past.{is_below}
use Rattle.snapshot.specs.Sight.{is_seen}
use Rattle.update_chain.specs.declared.update.Update.{Update}
use Rattle.leaf_chains.specs.declared.slot.KeyChain.{KeyChain}
use Rattle.leaf_chains.specs.Slots.{chain_at}
use Rattle.reconcile.specs.declared.live.Live.{Live}
use Rattle.reconcile.specs.declared.live.Live.TheVariants.{All, Seen}

-- ---- which versions

-- a version of this window may be written
abbrev pub lives : Live → Window → Bool
lives All w = true
lives (Seen snapshot) w = is_seen snapshot.now.sight w.name

abbrev pub is_live : Live → Version Change → Bool
is_live live v = lives live v.window

-- what is durable at the pin, and of a name below the floor
abbrev pub passes : ℕ → Name → Window → Bool
passes pin floor w = nat_le w.durable pin && is_below w.name floor

-- a version that makes what is older unreachable
abbrev pub is_past : ℕ → Name → Version Change → Bool
is_past pin floor v = passes pin floor v.window

-- ---- what is held

-- the rows of a page, where there is one
abbrev pub page_rows : Option (Bor (List Row)) → List Row
page_rows None = []
page_rows (Some page) = page.now

abbrev pub versions : List Update → List (Version Change)
versions chain = map {A = Update} (λ u. u.version) chain

-- what a leaf holds of a key: its chain's updates, then its row on the page, newest first
abbrev pub held_at : List ℕ → List Row → List KeyChain → List (Version Change)
held_at key page chains = versions (chain_at key chains) ++ option_to_list (shown_at key page)

-- ---- what is made of it

-- the rows have of each key the newest live version, a removal too, and no other key
pub record IsReconciled (live : Version Change → Bool) (page : List Row) (chains : List KeyChain) (rows : List Row) : Type 0 where
  pub fit : AreFit rows
  pub shows : (key : List ℕ) → shown_at key rows ≡ find live (held_at key page chains)

-- what moves to the history: what is live behind the newest live one, down to the first live one that is past; the newest one counts
abbrev pub moved_of : (Version Change → Bool) → (Version Change → Bool) → List (Version Change) → List (Version Change)
moved_of live past held = drop 1 (down_to past (filter live held))
