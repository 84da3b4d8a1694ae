-- Of each key of a history the newest record that an opening keeps.
use Rattle.std.specs.Prelude.{◌≡◌, ℕ, ◌≤◌, Bool, true, false, not, ◌&&◌, ◌||◌, ◌==◌, nat_lt, bytes_eq, List, [], ◌∷◌, length, take, drop, map, filter, Option, Some, None, if◌then◌else◌}
use Rattle.std.specs.List.{AllByRecursion}
use Rattle.std.specs.Ordering.{nat_cmp, then_cmp, on}
use Rattle.std.specs.Cmp.Lexicographic.{slice_cmp}
use Rattle.std.specs.declared.cmp.Ordering.{Ordering}
use Rattle.std.specs.declared.cmp.Ordering.TheVariants.{Less, Equal, Greater}
use Rattle.stamp.specs.Order.{is_before}
use Rattle.stamp.specs.declared.version.Version.{Version}
use Rattle.row_page.specs.Changes.{PageChange}
use Rattle.row_page.specs.Rows.{Row, is_below}
use Rattle.stored.specs.TableTree.{ends_below}
use Rattle.stored.specs.HistoryTree.{HistoryRecord}
use Rattle.leaf_rows.specs.declared.marks.Marks.{Marks}
use Rattle.leaf_rows.specs.Contents.{is_seen_window}

-- an opening keeps the record, where its table is there
abbrev pub is_kept_record : Marks → List ℕ → HistoryRecord → Bool
is_kept_record m ids r = is_seen_window m ids r.version.window

-- by table, then by key
abbrev pub key_cmp : HistoryRecord → HistoryRecord → Ordering
key_cmp = then_cmp (on (λ r. r.table) nat_cmp) (on (λ r. r.key) (slice_cmp nat_cmp))

-- each is of a key behind that of the one before
abbrev pub KeysClimb : List HistoryRecord → Type 0
KeysClimb [] = Unit {0}
KeysClimb (r ∷ []) = Unit {0}
KeysClimb (r ∷ s ∷ records) = (key_cmp r s ≡ Less) × KeysClimb (s ∷ records)

-- ---- the newest of each key

-- the one with the later name
abbrev pub newer : HistoryRecord → HistoryRecord → HistoryRecord
newer r s = if is_before r.version.window.name s.version.window.name then s else r

abbrev pub by_order : {A : Type 0} → Ordering → (less same greater : A) → A
by_order Less less same greater = less
by_order Equal less same greater = same
by_order Greater less same greater = greater

-- of records in the order of their keys, of which this is the first, the newest of each key; one that is out of this order is left out
abbrev pub newest_from : HistoryRecord → List HistoryRecord → List HistoryRecord
newest_from r [] = r ∷ []
newest_from r (s ∷ records) = by_order (key_cmp r s) (r ∷ newest_from s records) (newest_from (newer r s) records) (newest_from r records)

abbrev pub newest_in : List HistoryRecord → List HistoryRecord
newest_in [] = []
newest_in (r ∷ records) = newest_from r records

-- behind what was found last, where something was
abbrev pub newest_behind : Option HistoryRecord → List HistoryRecord → List HistoryRecord
newest_behind None records = newest_in records
newest_behind (Some r) records = newest_from r records

-- of those that an opening keeps
abbrev pub newest_kept : Marks → List ℕ → List HistoryRecord → List HistoryRecord
newest_kept m ids records = newest_in (filter (is_kept_record m ids) records)

-- ---- where they stand

-- the version of the record of this key of a table
abbrev pub record_at : ℕ → List ℕ → List HistoryRecord → Option (Version PageChange)
record_at table key [] = None
record_at table key (r ∷ records) = if (r.table == table) && bytes_eq r.key key then Some r.version else record_at table key records

-- the record is of a table before this one, or of this one and of a key below this one, where there is one
abbrev pub is_sooner : ℕ → Option (List ℕ) → HistoryRecord → Bool
is_sooner table key r = nat_lt r.table table || ((r.table == table) && ends_below key r.key)

-- so are the first ones, as many as this, and none of the others
pub record IsCountBefore (table : ℕ) (key : Option (List ℕ)) (records : List HistoryRecord) (n : ℕ) : Type 0 where
  pub within : n ≤ length records
  pub sooner : AllByRecursion (λ (r : HistoryRecord). is_sooner table key r ≡ true) (take n records)
  pub others : AllByRecursion (λ (r : HistoryRecord). is_sooner table key r ≡ false) (drop n records)

-- the record is of this table, of a key from the low one on and below the next, where there is one
abbrev pub is_of_leaf : ℕ → List ℕ → Option (List ℕ) → HistoryRecord → Bool
is_of_leaf table low next r = (r.table == table) && (not (is_below r.key low) && ends_below next r.key)

abbrev pub of_leaf : ℕ → List ℕ → Option (List ℕ) → List HistoryRecord → List HistoryRecord
of_leaf table low next records = filter (is_of_leaf table low next) records

-- the record as a row of its key
abbrev pub row_of : HistoryRecord → Row
row_of r = (r.key, r.version)

abbrev pub rows_of : List HistoryRecord → List Row
rows_of records = map {A = HistoryRecord} row_of records
