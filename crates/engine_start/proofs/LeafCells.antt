-- What an opening keeps of a device, by its tables with all their rows, and the versions of each key.
use Rattle.std.proofs.Common.{◌≡◌, ℕ, true, false, List, [], ◌∷◌, ◌++◌, map, None, refl, sym, ap, subst, ◌∙◌, inl, inr}
use Rattle.std.specs.Prelude.{filter, ◌==◌}
use Rattle.std.specs.Option.{option_to_list}
use Rattle.std.specs.List.{AllByRecursion}
use Rattle.std.proofs.lemmas.Bool.{cases_Bool, eq-eqb, eqb-true, or_right}
use Rattle.std.proofs.lemmas.List.{append-nil, map-append}
use Rattle.std.proofs.lemmas.List.Elements.{filter-append}
use Rattle.item.specs.declared.change.Change.{Change}
use Rattle.stamp.specs.declared.version.Version.{Version}
use Rattle.kv_model.specs.Holds.{Member}
use Rattle.kv_model.specs.History.{Table, Placed, has_table, history_of, is_at, line, of_key}
use Rattle.kv_model.specs.Content.{base, descending, is_kept_version, kept, kept_cells, placed_lt, table_lt}
use Rattle.kv_model.specs.Regular.{AllApart, SameNumber}
use Rattle.kv_model.proofs.Finishing.{line-base}
use Rattle.row_page.specs.Changes.{version_in}
use Rattle.row_page.specs.Rows.{Row}
use Rattle.stored.specs.Stored.{placed_in}
use Rattle.leaf_rows.specs.declared.marks.Marks.{Marks}
use Rattle.leaf_rows.specs.Contents.{is_seen_row, seen_rows}
use Rattle.leaf_rows.specs.Rows.{AreFit}
use Rattle.reconcile.specs.Shows.{shown_at}
use Rattle.reconcile.proofs.Keyed.{of_key_rows, of_key_elsewhere, of_key_descending}
use Rattle.engine_start.specs.Contents.{TableLeaf, cells_in, kept_leaves, leaves_content, leaves_content_with, seen_leaves, tables_in}

-- ---- what an opening keeps

pub has : (tables : List Table) (t : Table) → Member t tables → has_table tables t.number ≡ true
has [] t there = absurd there
has (u ∷ tables) t (inl same) = rw (eq-eqb u.number t.number (ap (λ (x : Table). x.number) (sym same))) refl
has (u ∷ tables) t (inr there) = or_right (u.number == t.number) (has_table tables t.number) (has tables t there)

seen_same : (m : Marks) (ids : List ℕ) (all : List TableLeaf) (number : ℕ) (r : Row) → has_table (tables_in all) number ≡ true
    → is_kept_version (leaves_content_with m ids all) (record { table = number; key = r.0; version = version_in r.1 }) ≡ is_seen_row m ids r
seen_same m ids all number r there = rw there refl

rows_seen : (m : Marks) (ids : List ℕ) (all : List TableLeaf) (number : ℕ) → has_table (tables_in all) number ≡ true → (rows : List Row)
    → filter (is_kept_version (leaves_content_with m ids all)) (placed_in number rows) ≡ placed_in number (seen_rows m ids rows)
rows_seen m ids all number there [] = refl
rows_seen m ids all number there (r ∷ rows) = elim (cases_Bool (is_seen_row m ids r)) [
  | inl is ↦ rw (seen_same m ids all number r there ∙ is, is) (ap (λ (l : List Placed). record { table = number; key = r.0; version = version_in r.1 } ∷ l) (rows_seen m ids all number there rows))
  | inr isnt ↦ rw (seen_same m ids all number r there ∙ isnt, isnt) (rows_seen m ids all number there rows)
]

cells_seen : (m : Marks) (ids : List ℕ) (all leaves : List TableLeaf) → ((t : Table) → Member t (tables_in leaves) → Member t (tables_in all))
    → filter (is_kept_version (leaves_content_with m ids all)) (cells_in leaves) ≡ cells_in (seen_leaves m ids leaves)
cells_seen m ids all [] among = refl
cells_seen m ids all (l ∷ leaves) among =
    filter-append (is_kept_version (leaves_content_with m ids all)) (placed_in l.table.number l.rows) (cells_in leaves)
    ∙ (ap (λ (c : List Placed). c ++ filter (is_kept_version (leaves_content_with m ids all)) (cells_in leaves)) (rows_seen m ids all l.table.number (has (tables_in all) l.table (among l.table (inl refl))) l.rows)
    ∙ ap (λ (c : List Placed). placed_in l.table.number (seen_rows m ids l.rows) ++ c) (cells_seen m ids all leaves (λ t there. among t (inr there))))

seen_are : (m : Marks) (ids : List ℕ) (all : List TableLeaf) → kept (leaves_content_with m ids all) ≡ cells_in (seen_leaves m ids all)
seen_are m ids all = append-nil (kept_cells (leaves_content_with m ids all)) ∙ cells_seen m ids all all (λ t there. there)

pub kept_are : (m : Marks) (all : List TableLeaf) → kept (leaves_content m all) ≡ cells_in (kept_leaves m all)
kept_are m all = seen_are m [] all

pub tables_seen : (m : Marks) (ids : List ℕ) (all : List TableLeaf) → tables_in (seen_leaves m ids all) ≡ tables_in all
tables_seen m ids [] = refl
tables_seen m ids (l ∷ all) = ap (λ (ts : List Table). l.table ∷ ts) (tables_seen m ids all)

-- ---- the base, with what is kept alone

base_of_seen : (m : Marks) (ids : List ℕ) (all : List TableLeaf) → base (leaves_content_with m ids all) ≡ history_of (descending table_lt (tables_in (seen_leaves m ids all))) (descending placed_lt (cells_in (seen_leaves m ids all)))
base_of_seen m ids all =
    ap (λ (c : List Placed). history_of (descending table_lt (tables_in all)) (descending placed_lt c)) (seen_are m ids all)
    ∙ ap (λ (ts : List Table). history_of (descending table_lt ts) (descending placed_lt (cells_in (seen_leaves m ids all)))) (sym (tables_seen m ids all))

pub same_base : (m : Marks) (ids : List ℕ) (all leaves : List TableLeaf) → seen_leaves m ids all ≡ leaves → kept_leaves m leaves ≡ leaves → base (leaves_content m leaves) ≡ base (leaves_content_with m ids all)
same_base m ids all leaves are again =
    base_of_seen m [] leaves
    ∙ (ap (λ (l : List TableLeaf). history_of (descending table_lt (tables_in l)) (descending placed_lt (cells_in l))) (again ∙ sym are)
    ∙ sym (base_of_seen m ids all))

-- ---- the versions of a key

of_key_append : (table : ℕ) (key : List ℕ) (xs ys : List Placed) → of_key table key (xs ++ ys) ≡ of_key table key xs ++ of_key table key ys
of_key_append table key xs ys =
    ap (map {A = Placed} (λ p. p.version)) (filter-append (is_at table key) xs ys)
    ∙ map-append (λ (p : Placed). p.version) (filter (is_at table key) xs) (filter (is_at table key) ys)

differ : (m n : ℕ) → (m ≡ n → ⊥) → (m == n) ≡ false
differ m n apart = elim (cases_Bool (m == n)) [ inl is ↦ absurd (apart (eqb-true m n is)) | inr isnt ↦ isnt ]

member_table : (l : TableLeaf) (leaves : List TableLeaf) → Member l leaves → Member l.table (tables_in leaves)
member_table l [] there = absurd there
member_table l (x ∷ leaves) (inl same) = inl (ap (λ (y : TableLeaf). y.table) same)
member_table l (x ∷ leaves) (inr there) = inr (member_table l leaves there)

-- of no other table's number there is any
none_elsewhere : (number : ℕ) (key : List ℕ) (leaves : List TableLeaf) → ((t : Table) → Member t (tables_in leaves) → t.number ≡ number → ⊥) → of_key number key (cells_in leaves) ≡ []
none_elsewhere number key [] apart = refl
none_elsewhere number key (l ∷ leaves) apart =
    of_key_append number key (placed_in l.table.number l.rows) (cells_in leaves)
    ∙ (ap (λ (c : List (Version Change)). c ++ of_key number key (cells_in leaves)) (of_key_elsewhere l.table.number number key l.rows (differ l.table.number number (apart l.table (inl refl))))
    ∙ none_elsewhere number key leaves (λ t there. apart t (inr there)))

abbrev pub AllFit : List TableLeaf → Type 0
AllFit leaves = AllByRecursion (λ (l : TableLeaf). AreFit l.rows) leaves

pub of_key_leaf : (key : List ℕ) (leaves : List TableLeaf) (l : TableLeaf) → AllApart SameNumber (tables_in leaves) → AllFit leaves → Member l leaves → of_key l.table.number key (cells_in leaves) ≡ option_to_list (shown_at key l.rows)
of_key_leaf key [] l apart fit there = absurd there
of_key_leaf key (x ∷ leaves) l apart fit (inl same) =
    subst (λ (y : TableLeaf). of_key y.table.number key (cells_in (x ∷ leaves)) ≡ option_to_list (shown_at key y.rows)) (sym same)
    (of_key_append x.table.number key (placed_in x.table.number x.rows) (cells_in leaves)
    ∙ (ap (λ (c : List (Version Change)). of_key x.table.number key (placed_in x.table.number x.rows) ++ c) (none_elsewhere x.table.number key leaves (λ t member number. apart.0 t member (sym number)))
    ∙ (append-nil (of_key x.table.number key (placed_in x.table.number x.rows))
    ∙ of_key_rows x.table.number key None x.rows fit.0.ascend)))
of_key_leaf key (x ∷ leaves) l apart fit (inr there) =
    of_key_append l.table.number key (placed_in x.table.number x.rows) (cells_in leaves)
    ∙ (ap (λ (c : List (Version Change)). c ++ of_key l.table.number key (cells_in leaves)) (of_key_elsewhere x.table.number l.table.number key x.rows (differ x.table.number l.table.number (apart.0 l.table (member_table l leaves there))))
    ∙ of_key_leaf key leaves l apart.1 fit.1 there)

-- the line of a key of a table is the version that its leaf has
pub leaf_line : (m : Marks) (leaves : List TableLeaf) (l : TableLeaf) (key : List ℕ) → kept_leaves m leaves ≡ leaves → AllApart SameNumber (tables_in leaves) → AllFit leaves → Member l leaves
    → line (base (leaves_content m leaves)) l.table.number key ≡ option_to_list (shown_at key l.rows)
leaf_line m leaves l key again apart fit there =
    line-base (descending table_lt (tables_in leaves)) (descending placed_lt (kept (leaves_content m leaves))) l.table.number key
    ∙ of_key_descending placed_lt l.table.number key (kept (leaves_content m leaves)) (shown_at key l.rows)
    (ap (of_key l.table.number key) (kept_are m leaves ∙ ap cells_in again) ∙ of_key_leaf key leaves l apart fit there)
