-- Whether a name stands once for each key, told from records that ascend.
use Rattle.std.specs.Prelude.{Bool, true, false, ◌&&◌, ◌||◌, not, List, [], ◌∷◌}
use Rattle.std.specs.Ordering.{nat_cmp, then_cmp, on, is_eq, is_lt}
use Rattle.std.specs.declared.cmp.Ordering.{Ordering}
use Rattle.std.specs.Cmp.Lexicographic.{slice_cmp}
use Rattle.stamp.specs.declared.name.Name.{Name}
use Rattle.stored.specs.HistoryTree.{HistoryRecord}

-- by table, then by key
abbrev pub key_cmp : HistoryRecord → HistoryRecord → Ordering
key_cmp = then_cmp (on (λ r. r.table) nat_cmp) (on (λ r. r.key) (slice_cmp nat_cmp))

abbrev pub same_key : HistoryRecord → HistoryRecord → Bool
same_key r s = is_eq (key_cmp r s)

-- by run, then by id
abbrev pub name_order : Name → Name → Ordering
name_order = then_cmp (on (λ n. n.run) nat_cmp) (on (λ n. n.id) nat_cmp)

abbrev pub name_cmp : HistoryRecord → HistoryRecord → Ordering
name_cmp r s = name_order r.version.window.name s.version.window.name

-- the second is of another key, or has a name above the first one's
abbrev pub climbs : HistoryRecord → HistoryRecord → Bool
climbs r s = not (same_key r s) || is_lt (name_cmp r s)

-- the names of each key ascend
abbrev pub names_climb : List HistoryRecord → Bool
names_climb [] = true
names_climb (r ∷ []) = true
names_climb (r ∷ s ∷ records) = climbs r s && names_climb (s ∷ records)

-- the name stands again in those of the same key that follow
abbrev pub stands_again : HistoryRecord → List HistoryRecord → Bool
stands_again r [] = false
stands_again r (s ∷ records) = same_key r s && (is_eq (name_cmp r s) || stands_again r records)

-- no name stands again
abbrev pub names_once : List HistoryRecord → Bool
names_once [] = true
names_once (r ∷ records) = not (stands_again r records) && names_once records

abbrev pub names_differ : List HistoryRecord → Bool
names_differ records = names_climb records || names_once records
