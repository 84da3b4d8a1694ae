-- The rows that a leaf holds, in the order of their keys: a list for each key, newest first.
use Rattle.std.specs.Prelude.{ℕ, List, [], ◌∷◌, ◌++◌, map, filter, find, drop}
use Rattle.std.specs.Option.{option_to_list}
use Rattle.std.specs.List.{flat_map}
use Rattle.std.specs.Ordering.{nat_cmp, match_ordering}
use Rattle.std.specs.Cmp.Lexicographic.{slice_cmp}
use Rattle.stamp.specs.declared.Name.{Name}
use Rattle.kv_model.specs.History.{down_to}
use Rattle.row_page.specs.Changes.{version_in}
use Rattle.row_page.specs.Rows.{Row}
use Rattle.update_chain.specs.declared.update.Update.{Update}
use Rattle.leaf_chains.specs.declared.slot.KeyChain.{KeyChain}
use Rattle.reconcile.specs.Cells.{cell_version}
use Rattle.reconcile.specs.declared.image.Moved.{Moved}
use Rattle.reconcile.specs.declared.live.Live.{Live}
use Rattle.reconcile.specs.Held.{lives, passes}

-- ---- the lists

-- the updates of a chain as rows of its key
abbrev pub chain_rows : List ℕ → List Update → List Row
chain_rows key chain = map {A = Update} (λ u. (key, cell_version u.version)) chain

-- a key's list among those of the page, where further merges what is left of the page
abbrev pub among : KeyChain → (List Row → List (List Row)) → List Row → List (List Row)
among c further [] = chain_rows c.key c.chain ∷ further []
among c further (r ∷ page) = match_ordering (slice_cmp nat_cmp r.0 c.key) ((r ∷ []) ∷ among c further page) ((chain_rows c.key c.chain ++ r ∷ []) ∷ further page) (chain_rows c.key c.chain ∷ further (r ∷ page))

-- those of the keys' chains and of the page
abbrev pub merged : List KeyChain → List Row → List (List Row)
merged [] page = map (λ r. r ∷ []) page
merged (c ∷ chains) page = among c (merged chains) page

-- ---- what is made of a list

-- the newest that is live
abbrev pub kept : Live → List Row → List Row
kept live held = option_to_list (find (λ (r : Row). lives live r.1.window) held)

-- what moves
abbrev pub gone : Live → ℕ → Name → List Row → List Row
gone live pin floor held = drop 1 (down_to (λ (r : Row). passes pin floor r.1.window) (filter (λ (r : Row). lives live r.1.window) held))

abbrev pub moved_row : Row → Moved
moved_row r = record { key = r.0; version = version_in r.1 }

-- of all lists
abbrev pub all_kept : Live → List (List Row) → List Row
all_kept live lists = flat_map (kept live) lists

abbrev pub all_gone : Live → ℕ → Name → List (List Row) → List Row
all_gone live pin floor lists = flat_map (gone live pin floor) lists
