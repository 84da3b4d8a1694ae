-- A device is regular, by its tables with all their rows.
use Rattle.std.proofs.Common.{◌≡◌, ◌⊎◌, ◌≤◌, ℕ, true, List, [], ◌∷◌, ◌++◌, Option, Some, None, refl, sym, ap, subst, ◌∙◌, inl, inr}
use Rattle.std.specs.List.{AllByRecursion}
use Rattle.kv_model.specs.Holds.{Member}
use Rattle.kv_model.specs.Allowed.{StampsFit}
use Rattle.kv_model.specs.History.{Table, Placed}
use Rattle.kv_model.specs.Regular.{AllApart, SameKey, SameNumber, IsRegular}
use Rattle.row_page.specs.Rows.{Row, RowFits, key_most, is_below, Ascends}
use Rattle.row_page.proofs.Ascending.{all_above, below_self}
use Rattle.stored.specs.Stored.{placed_in}
use Rattle.leaf_rows.specs.declared.marks.Marks.{Marks}
use Rattle.catalog.specs.Known.{is_below as name_below}
use Rattle.catalog.specs.Opens.{AreRecorded}
use Rattle.catalog.specs.Order.{Ascend}
use Rattle.catalog.proofs.InOrder.{below_member, unchained}
use Rattle.catalog.proofs.NameOrder.{below_self as name_below_self}
use Rattle.engine_start.specs.Contents.{TableLeaf, cells_in, leaves_content_with, tables_in}
use Rattle.engine_start.proofs.LeafCells.{AllFit}

-- ---- names

names_part : (x : Table) (later : List Table) (t : Table) → AllByRecursion (λ (other : Table). name_below x.name other.name ≡ true) later → Member t later → x.name ≡ t.name → ⊥
names_part x later t all there same = name_below_self t.name (subst (λ (n : List ℕ). name_below n t.name ≡ true) same (below_member x later t all there))

one_named : (tables : List Table) (t u : Table) → Ascend tables → Member t tables → Member u tables → t.name ≡ u.name → t ≡ u
one_named [] t u ascend there also same = absurd there
one_named (x ∷ later) t u ascend (inl is) (inl also) same = is ∙ sym also
one_named (x ∷ later) t u ascend (inl is) (inr also) same = absurd (names_part x later u ascend.0 also (sym (ap (λ (y : Table). y.name) is) ∙ same))
one_named (x ∷ later) t u ascend (inr there) (inl also) same = absurd (names_part x later t ascend.0 there (sym (ap (λ (y : Table). y.name) also) ∙ sym same))
one_named (x ∷ later) t u ascend (inr there) (inr also) same = one_named later t u ascend.1 there also same

-- ---- lists behind one another

pub member_append : {A : Type 0} (xs ys : List A) (z : A) → Member z (xs ++ ys) → Member z xs ⊎ Member z ys
member_append [] ys z there = inr there
member_append (x ∷ xs) ys z (inl same) = inl (inl same)
member_append (x ∷ xs) ys z (inr there) = elim (member_append xs ys z there) [ inl one ↦ inl (inr one) | inr other ↦ inr other ]

apart_append : {A : Type 0} (Clash : A → A → Type 0) (xs ys : List A) → AllApart Clash xs → AllApart Clash ys → ((x y : A) → Member x xs → Member y ys → Clash x y → ⊥) → AllApart Clash (xs ++ ys)
apart_append Clash [] ys one other cross = other
apart_append Clash (x ∷ xs) ys one other cross = (
  λ y there clash. elim (member_append xs ys y there) [ inl near ↦ one.0 y near clash | inr far ↦ cross x y (inl refl) far clash ],
  apart_append Clash xs ys one.1 other (λ u v near far. cross u v (inr near) far),
)

-- ---- cells

key_above : (key : List ℕ) (number : ℕ) (rows : List Row) → AllByRecursion (λ (r : Row). is_below key r.0 ≡ true) rows → (p : Placed) → Member p (placed_in number rows) → is_below key p.key ≡ true
key_above key number [] all p there = absurd there
key_above key number (r ∷ rows) all p (inl same) = subst (λ (x : Placed). is_below key x.key ≡ true) (sym same) all.0
key_above key number (r ∷ rows) all p (inr later) = key_above key number rows all.1 p later

rows_apart : (number : ℕ) (before : Option (List ℕ)) (rows : List Row) → Ascends before rows → AllApart SameKey (placed_in number rows)
rows_apart number before [] up = tt
rows_apart number before (r ∷ rows) up = (
  λ p there same. below_self r.0 (subst (λ (k : List ℕ). is_below r.0 k ≡ true) (sym same.1) (key_above r.0 number rows (all_above r.0 rows up.1) p there)),
  rows_apart number (Some r.0) rows up.1,
)

number_placed : (number : ℕ) (rows : List Row) (p : Placed) → Member p (placed_in number rows) → p.table ≡ number
number_placed number [] p there = absurd there
number_placed number (r ∷ rows) p (inl same) = ap (λ (x : Placed). x.table) same
number_placed number (r ∷ rows) p (inr later) = number_placed number rows p later

-- a cell is of one of the tables
of_table : (leaves : List TableLeaf) (p : Placed) → Member p (cells_in leaves) → (t : Table) × Member t (tables_in leaves) × (p.table ≡ t.number)
of_table [] p there = absurd there
of_table (l ∷ leaves) p there = elim (member_append (placed_in l.table.number l.rows) (cells_in leaves) p there) [
  | inl here ↦ (l.table, inl refl, number_placed l.table.number l.rows p here)
  | inr later ↦ let t = of_table leaves p later in (t.0, inr t.1, t.2)
]

cells_apart : (leaves : List TableLeaf) → AllApart SameNumber (tables_in leaves) → AllFit leaves → AllApart SameKey (cells_in leaves)
cells_apart [] apart fit = tt
cells_apart (l ∷ leaves) apart fit = apart_append SameKey (placed_in l.table.number l.rows) (cells_in leaves)
    (rows_apart l.table.number None l.rows fit.0.ascend)
    (cells_apart leaves apart.1 fit.1)
    (λ p q here later same. let t = of_table leaves q later in apart.0 t.0 t.1 (sym (number_placed l.table.number l.rows p here) ∙ (same.0 ∙ t.2)))

stamps_placed : (number : ℕ) (rows : List Row) → AllByRecursion (λ (r : Row). RowFits [] key_most r) rows → (p : Placed) → Member p (placed_in number rows) → p.version.window.commit ≤ p.version.window.durable
stamps_placed number [] fit p there = absurd there
stamps_placed number (r ∷ rows) fit p (inl same) = subst (λ (x : Placed). x.version.window.commit ≤ x.version.window.durable) (sym same) fit.0.window.stamps
stamps_placed number (r ∷ rows) fit p (inr later) = stamps_placed number rows fit.1 p later

stamps_in : (leaves : List TableLeaf) → AllFit leaves → (p : Placed) → Member p (cells_in leaves) → p.version.window.commit ≤ p.version.window.durable
stamps_in [] fit p there = absurd there
stamps_in (l ∷ leaves) fit p there = elim (member_append (placed_in l.table.number l.rows) (cells_in leaves) p there) [
  | inl here ↦ stamps_placed l.table.number l.rows fit.0.fit p here
  | inr later ↦ stamps_in leaves fit.1 p later
]

-- whichever ids had not ended
pub regular_with : (m : Marks) (ids : List ℕ) (leaves : List TableLeaf) (next : ℕ) → AreRecorded (tables_in leaves) next → StampsFit m.oldest m.stable → AllFit leaves → IsRegular (leaves_content_with m ids leaves)
regular_with m ids leaves next are stamps fit = record {
  numbers = are.once;
  names = λ t u there also same. ap (λ (x : Table). x.number) (one_named (tables_in leaves) t u (unchained (tables_in leaves) are.ascend) there also same);
  cells = cells_apart leaves are.once fit;
  records = tt;
  stamps = λ p there. elim there [ inl of ↦ stamps_in leaves fit p of | inr none ↦ absurd none ];
  fit = stamps;
}
