-- What is read from a device is regular: keys, names and numbers stand once, and the stamps fit.
use Rattle.std.specs.Prelude.{◌≡◌, ◌≢◌, ◌⊎◌, ℕ, ◌≤◌, true, not, IsTrue, List, [], ◌∷◌, ◌++◌, map, Option, Some, None, refl}
use Rattle.std.specs.List.{AllByRecursion}
use Rattle.std.proofs.Common.{inl, inr, sym, ◌∙◌, ap, subst}
use Rattle.stamp.specs.declared.name.Name.{Name}
use Rattle.kv_model.specs.Holds.{Member}
use Rattle.kv_model.specs.History.{Table, Placed}
use Rattle.kv_model.specs.Content.{Content}
use Rattle.kv_model.specs.Regular.{AllApart, SameNumber, SameKey, SameVersion, IsRegular}
use Rattle.row_page.specs.Changes.{version_in}
use Rattle.row_page.specs.Rows.{Row, RowFits, Ascends, key_most, is_below}
use Rattle.row_page.proofs.Ascending.{below_trans, below_self, all_above}
use Rattle.stored.specs.Links.{nowhere}
use Rattle.stored.specs.Tree.{AllBear, bottom, join}
use Rattle.stored.specs.TableTree.{Entry, Climbs, Stay, first_key, ends_below, table_kind, TableTree, root_entry}
use Rattle.stored.specs.HistoryTree.{HistoryEntry, HistoryRecord, record_in, AreAlike, NamesOnce, AreRecords, RecordFits, history_kind, history_root_entry}
use Rattle.stored.specs.Records.{TableRoot, TablesClimb, NumbersOnce}
use Rattle.stored.specs.Stored.{Stored, AreTrees, IsOn, Reads, content_of, cells_in, placed_in, tables_of}

-- ---- lists

all_member : {A : Type 0} (P : A → Type 0) (xs : List A) (x : A) → AllByRecursion P xs → Member x xs → P x
all_member P [] x all there = absurd there
all_member P (y ∷ xs) x all (inl is) = subst P (sym is) all.0
all_member P (y ∷ xs) x all (inr there) = all_member P xs x all.1 there

member_parts : {A : Type 0} (xs ys : List A) (x : A) → Member x (xs ++ ys) → Member x xs ⊎ Member x ys
member_parts [] ys x there = inr there
member_parts (y ∷ xs) ys x (inl is) = inl (inl is)
member_parts {A} (y ∷ xs) ys x (inr there) = elim (member_parts xs ys x there) [ inl front ↦ inl (inr front) | inr back ↦ inr back ]

member_map : {A B : Type 0} (f : A → B) (xs : List A) (y : B) → Member y (map {A = A} f xs) → (x : A) × Member x xs × (y ≡ f x)
member_map f [] y there = absurd there
member_map f (x ∷ xs) y (inl is) = (x, inl refl, is)
member_map f (x ∷ xs) y (inr there) = let found = member_map f xs y there in (found.0, inr found.1, found.2)

apart_both : {A : Type 0} (Clash : A → A → Type 0) (xs ys : List A) → AllApart Clash xs → AllApart Clash ys → ((x y : A) → Member x xs → Member y ys → Clash x y → ⊥) → AllApart Clash (xs ++ ys)
apart_both Clash [] ys front back across = back
apart_both Clash (x ∷ xs) ys front back across = (
  λ y there clash. elim (member_parts xs ys y there) [ inl near ↦ front.0 y near clash | inr far ↦ across x y (inl refl) far clash ],
  apart_both Clash xs ys front.1 back (λ z y there far. across z y (inr there) far),
)

-- ---- the rows of a tree

abbrev SameRow : Row → Row → Type 0
SameRow r q = r.0 ≡ q.0

differ : (x y : List ℕ) → is_below x y ≡ true → x ≡ y → ⊥
differ x y below same = below_self x (subst (λ (k : List ℕ). is_below x k ≡ true) (sym same) below)

leaf_apart : (before : Option (List ℕ)) (rows : List Row) → Ascends before rows → AllApart SameRow rows
leaf_apart before [] ascends = tt
leaf_apart before (r ∷ rows) ascends = (
  λ y there same. differ r.0 y.0 (all_member (λ (x : Row). is_below r.0 x.0 ≡ true) rows y (all_above r.0 rows ascends.1) there) same,
  leaf_apart (Some r.0) rows ascends.1,
)

not_below : (x y : List ℕ) → IsTrue (not (is_below x y)) → is_below x y ≡ true → ⊥
not_below x y isnt is = let no : not (is_below x y) ≡ not true = ap not is in cc

-- a row is from its entry's key up to the next entry's
abbrev StaysAt : Entry → List Entry → Row → Type 0
StaysAt e es r = IsTrue (not (is_below r.0 e.key)) × IsTrue (ends_below (first_key es) r.0)

no_more : (leaves : List (List Row)) (r : Row) → AllBear table_kind [] leaves → Member r (join leaves) → ⊥
no_more [] r bear there = there
no_more (rows ∷ leaves) r bear there = bear

-- no row of a tree is below the key of its first entry
from_first : (e : Entry) (es : List Entry) (leaves : List (List Row)) (r : Row) → Climbs (e ∷ es) → Stay (e ∷ es) leaves → AllBear table_kind (e ∷ es) leaves → Member r (join leaves) → is_below r.0 e.key ≡ true → ⊥
from_first e es [] r climbs stay bear there below = bear
from_first e [] (rows ∷ leaves) r climbs stay bear there below = elim (member_parts rows (join leaves) r there) [
  | inl here ↦ not_below r.0 e.key (all_member (λ (x : Row). StaysAt e [] x) rows r stay.0 here).0 below
  | inr far ↦ no_more leaves r bear.1 far
]
from_first e (f ∷ es) (rows ∷ leaves) r climbs stay bear there below = elim (member_parts rows (join leaves) r there) [
  | inl here ↦ not_below r.0 e.key (all_member (λ (x : Row). StaysAt e (f ∷ es) x) rows r stay.0 here).0 below
  | inr far ↦ from_first f es leaves r climbs.1 stay.1 bear.1 far (below_trans r.0 e.key f.key below climbs.0)
]

rows_apart : (es : List Entry) (leaves : List (List Row)) → Climbs es → Stay es leaves → AllBear table_kind es leaves → AllApart SameRow (join leaves)
rows_apart [] [] climbs stay bear = tt
rows_apart [] (rows ∷ leaves) climbs stay bear = absurd bear
rows_apart (e ∷ es) [] climbs stay bear = absurd bear
rows_apart (e ∷ []) (rows ∷ leaves) climbs stay bear =
    apart_both SameRow rows (join leaves) (leaf_apart None rows bear.0.leaf.ascend) (rows_apart [] leaves tt stay.1 bear.1) (λ x y here far same. no_more leaves y bear.1 far)
rows_apart (e ∷ f ∷ es) (rows ∷ leaves) climbs stay bear =
    apart_both SameRow rows (join leaves) (leaf_apart None rows bear.0.leaf.ascend) (rows_apart (f ∷ es) leaves climbs.1 stay.1 bear.1)
    (λ x y here far same. from_first f es leaves y climbs.1 stay.1 bear.1 far (subst (λ (k : List ℕ). is_below k f.key ≡ true) same (all_member (λ (z : Row). StaysAt e (f ∷ es) z) rows x stay.0 here).1))

rows_fit : (es : List Entry) (leaves : List (List Row)) (r : Row) → AllBear table_kind es leaves → Member r (join leaves) → RowFits [] key_most r
rows_fit [] [] r bear there = absurd there
rows_fit [] (rows ∷ leaves) r bear there = absurd bear
rows_fit (e ∷ es) [] r bear there = absurd bear
rows_fit (e ∷ es) (rows ∷ leaves) r bear there = elim (member_parts rows (join leaves) r there) [
  | inl here ↦ all_member (λ (x : Row). RowFits [] key_most x) rows r bear.0.leaf.fit here
  | inr far ↦ rows_fit es leaves r bear.1 far
]

-- ---- the cells

abbrev cell_of : ℕ → Row → Placed
cell_of n r = record { table = n; key = r.0; version = version_in r.1 }

placed_apart : (n : ℕ) (rows : List Row) → AllApart SameRow rows → AllApart SameKey (placed_in n rows)
placed_apart n [] apart = tt
placed_apart n (r ∷ rows) apart = (
  λ y there same. (let q = member_map (cell_of n) rows y there in apart.0 q.0 q.1 (same.1 ∙ ap (λ (p : Placed). p.key) q.2)),
  placed_apart n rows apart.1,
)

cell_table : (tables : List TableRoot) (trees : List TableTree) (p : Placed) → Member p (cells_in tables trees) → (u : TableRoot) × Member u tables × (p.table ≡ u.table.number)
cell_table [] trees p there = absurd there
cell_table (t ∷ tables) [] p there = absurd there
cell_table (t ∷ tables) (tree ∷ trees) p there = elim (member_parts (placed_in t.table.number (join tree.leaves)) (cells_in tables trees) p there) [
  | inl here ↦ (let q = member_map (cell_of t.table.number) (join tree.leaves) p here in (t, inl refl, ap (λ (x : Placed). x.table) q.2))
  | inr far ↦ (let u = cell_table tables trees p far in (u.0, inr u.1, u.2))
]

cells_apart : (tables : List TableRoot) (trees : List TableTree) → AreTrees tables trees → NumbersOnce tables → AllApart SameKey (cells_in tables trees)
cells_apart [] trees are once = tt
cells_apart (t ∷ tables) [] are once = absurd are
cells_apart (t ∷ tables) (tree ∷ trees) are once =
    let es = bottom (root_entry t.root.link ∷ []) tree.layers in
    apart_both SameKey (placed_in t.table.number (join tree.leaves)) (cells_in tables trees)
    (placed_apart t.table.number (join tree.leaves) (rows_apart es tree.leaves are.0.parts.0 are.0.parts.1 are.0.bear))
    (cells_apart tables trees are.1 once.1)
    (λ x y here far same.
    let q = member_map (cell_of t.table.number) (join tree.leaves) x here in
    let u = cell_table tables trees y far in
    all_member (λ (v : TableRoot). v.table.number ≢ t.table.number) tables u.0 once.0 u.1 (sym u.2 ∙ sym same.0 ∙ ap (λ (p : Placed). p.table) q.2))

abbrev StampsRise : Placed → Type 0
StampsRise p = p.version.window.commit ≤ p.version.window.durable

cell_stamps : (tables : List TableRoot) (trees : List TableTree) (p : Placed) → AreTrees tables trees → Member p (cells_in tables trees) → StampsRise p
cell_stamps [] trees p are there = absurd there
cell_stamps (t ∷ tables) [] p are there = absurd there
cell_stamps (t ∷ tables) (tree ∷ trees) p are there = elim (member_parts (placed_in t.table.number (join tree.leaves)) (cells_in tables trees) p there) [
  | inl here ↦ (let q = member_map (cell_of t.table.number) (join tree.leaves) p here in
      subst StampsRise (sym q.2) (rows_fit (bottom (root_entry t.root.link ∷ []) tree.layers) tree.leaves q.0 are.0.bear q.1).window.stamps)
  | inr far ↦ cell_stamps tables trees p are.1 far
]

-- ---- the history

name_same : (a b : Name) → a.run ≡ b.run → a.id ≡ b.id → a ≡ b
name_same a b p q = rw (p, q) refl

-- two records of one name of a key
abbrev SameRecord : HistoryRecord → HistoryRecord → Type 0
SameRecord r s = SameVersion (record_in r) (record_in s)

alike : (r s : HistoryRecord) → SameRecord r s → AreAlike r s
alike r s same = record { table = same.0.0; key = same.0.1; name = name_same r.version.window.name s.version.window.name same.1 same.2 }

records_apart : (records : List HistoryRecord) → NamesOnce records → AllApart SameVersion (map {A = HistoryRecord} record_in records)
records_apart [] once = tt
records_apart (r ∷ records) once = (
  λ y there same.
      let q = member_map record_in records y there in
      all_member (λ (s : HistoryRecord). AreAlike r s → ⊥) records q.0 once.0 q.1 (alike r q.0 (subst (λ (p : Placed). SameVersion (record_in r) p) q.2 same)),
  records_apart records once.1,
)

leaf_stamps : (e : HistoryEntry) (records : List HistoryRecord) (r : HistoryRecord) → ((e.link ≡ nowhere) × (records ≡ [])) ⊎ ((e.link.addr.offset ≢ 0) × AreRecords records) → Member r records → StampsRise (record_in r)
leaf_stamps e records r (inl none) there = absurd (subst (λ (l : List HistoryRecord). Member r l) none.1 there)
leaf_stamps e records r (inr are) there = (all_member (λ (x : HistoryRecord). RecordFits x) records r are.1.fit there).row.window.stamps

record_stamps : (es : List HistoryEntry) (leaves : List (List HistoryRecord)) (r : HistoryRecord) → AllBear history_kind es leaves → Member r (join leaves) → StampsRise (record_in r)
record_stamps [] [] r bear there = absurd there
record_stamps [] (records ∷ leaves) r bear there = absurd bear
record_stamps (e ∷ es) [] r bear there = absurd bear
record_stamps (e ∷ es) (records ∷ leaves) r bear there = elim (member_parts records (join leaves) r there) [
  | inl here ↦ leaf_stamps e records r bear.0.leaf here
  | inr far ↦ record_stamps es leaves r bear.1 far
]

-- ---- the tables

numbers_apart : (tables : List TableRoot) → NumbersOnce tables → AllApart SameNumber (tables_of tables)
numbers_apart [] once = tt
numbers_apart (t ∷ tables) once = (
  λ y there same.
      (let u = member_map (λ (x : TableRoot). x.table) tables y there in
      all_member (λ (v : TableRoot). v.table.number ≢ t.table.number) tables u.0 once.0 u.1 (sym (same ∙ ap (λ (x : Table). x.number) u.2))),
  numbers_apart tables once.1,
)

climb_above : (t : TableRoot) (tables : List TableRoot) (u : TableRoot) → TablesClimb (t ∷ tables) → Member u tables → is_below t.table.name u.table.name ≡ true
climb_above t [] u climb there = absurd there
climb_above t (v ∷ tables) u climb (inl is) = subst (λ (x : TableRoot). is_below t.table.name x.table.name ≡ true) (sym is) climb.0
climb_above t (v ∷ tables) u climb (inr there) = below_trans t.table.name v.table.name u.table.name climb.0 (climb_above v tables u climb.1 there)

climbs_on : (t : TableRoot) (tables : List TableRoot) → TablesClimb (t ∷ tables) → TablesClimb tables
climbs_on t [] climb = tt
climbs_on t (v ∷ tables) climb = climb.1

abbrev name_in : TableRoot → List ℕ
name_in t = t.table.name

abbrev number_in : TableRoot → ℕ
number_in t = t.table.number

one_name : (tables : List TableRoot) (t u : TableRoot) → TablesClimb tables → Member t tables → Member u tables → name_in t ≡ name_in u → number_in t ≡ number_in u
one_name [] t u climb p q same = absurd p
one_name (x ∷ tables) t u climb (inl p) (inl q) same = ap number_in p ∙ sym (ap number_in q)
one_name (x ∷ tables) t u climb (inl p) (inr q) same = absurd (differ (name_in x) (name_in u) (climb_above x tables u climb q) (sym (ap name_in p) ∙ same))
one_name (x ∷ tables) t u climb (inr p) (inl q) same = absurd (differ (name_in x) (name_in t) (climb_above x tables t climb p) (sym (ap name_in q) ∙ sym same))
one_name (x ∷ tables) t u climb (inr p) (inr q) same = one_name tables t u (climbs_on x tables climb) p q same

-- ---- the content

regular_on : (bytes : List ℕ) (s : Stored) → IsOn bytes s → IsRegular (content_of s)
regular_on bytes s on =
    let tables = s.kept.tables in
    record {
      numbers = numbers_apart tables on.whole.is_record.once;
      names = λ t u first second same.
          let x = member_map (λ (r : TableRoot). r.table) tables t first in
          let y = member_map (λ (r : TableRoot). r.table) tables u second in
          ap (λ (a : Table). a.number) x.2 ∙ one_name tables x.0 y.0 on.whole.is_record.climb x.1 y.1 (sym (ap (λ (a : Table). a.name) x.2) ∙ same ∙ ap (λ (a : Table). a.name) y.2) ∙ sym (ap (λ (a : Table). a.number) y.2);
      cells = cells_apart tables s.trees on.whole.trees on.whole.is_record.once;
      records = records_apart (join s.history.leaves) on.whole.history.parts.once;
      stamps = λ p is. elim is [
        | inl cell ↦ cell_stamps tables s.trees p on.whole.trees cell
        | inr kept ↦ (let q = member_map record_in (join s.history.leaves) p kept in
            subst StampsRise (sym q.2) (record_stamps (bottom (history_root_entry s.kept.history.link ∷ []) s.history.layers) s.history.leaves q.0 on.whole.history.bear q.1))
      ];
      fit = on.whole.is_record.stamps;
    }

pub regular_read : (bytes : List ℕ) (c : Content) → Reads bytes c → IsRegular c
regular_read bytes c (inl blank) = subst IsRegular (sym blank.1) (record {
  numbers = tt;
  names = λ t u first second same. absurd first;
  cells = tt;
  records = tt;
  stamps = λ p is. elim is [ inl none ↦ absurd none | inr none ↦ absurd none ];
  fit = inl refl;
})
regular_read bytes c (inr (s, on, same)) = subst IsRegular (sym same) (regular_on bytes s on)
