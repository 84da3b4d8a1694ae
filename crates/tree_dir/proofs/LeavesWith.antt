-- Leaves of a table that are made of ids and entries.
use Rattle.std.proofs.Common.{◌≡◌, ℕ, ◌+◌, ◌≤◌, ◌⊎◌, true, List, [], ◌∷◌, ◌++◌, length, Some, None, sym, ap, subst, ◌∙◌, inl, inr, arith}
use Rattle.std.specs.List.{Contains}
use Rattle.std.proofs.lemmas.Bool.{both_ways, false_from_ne_true}
use Rattle.std.proofs.lemmas.Option.{same_Some}
use Rattle.row_page.specs.Rows.{is_below}
use Rattle.stored.specs.Records.{IdsAscend}
use Rattle.stored.specs.TableTree.{Climbs, Entry, first_key}
use Rattle.tree_dir.specs.declared.leaf.Leaf.{Leaf}
use Rattle.tree_dir.specs.Leaves.{begins_by, leaves_with}
use Rattle.tree_dir.specs.Slots.{new_leaf}
use Rattle.tree_dir.proofs.KeyOrder.{begins-table}
use Rattle.tree_dir.proofs.Members.{head-in, split}
use Rattle.tree_dir.proofs.Parting.{begins-here, begins-low, below-on}

pub with-own : (table : ℕ) (ids : List ℕ) (es : List Entry) (n : Leaf) → Contains (leaves_with table ids es) n → (n.table ≡ table) × (n.frame ≡ None)
with-own table [] es n c = absurd (omega (arith, c.1))
with-own table (id ∷ ids) [] n c = absurd (omega (arith, c.1))
with-own table (id ∷ ids) (e ∷ es) n c = elim (split (new_leaf table id e) n (leaves_with table ids es) c) [
  | inl same ↦ (ap (λ (m : Leaf). m.table) (sym same), ap (λ (m : Leaf). m.frame) (sym same))
  | inr more ↦ with-own table ids es n more
]

pub with-ids : (least most table : ℕ) (ids : List ℕ) (es : List Entry) (n : Leaf) → IdsAscend least most ids → Contains (leaves_with table ids es) n → least ≤ n.id
with-ids least most table [] es n up c = absurd (omega (arith, c.1))
with-ids least most table (id ∷ ids) [] n up c = absurd (omega (arith, c.1))
with-ids least most table (id ∷ ids) (e ∷ es) n up c = elim (split (new_leaf table id e) n (leaves_with table ids es) c) [
  | inl same ↦ let its = ap (λ (m : Leaf). m.id) same in omega (arith, its, up.0)
  | inr more ↦ let above = with-ids (id + 1) most table ids es n up.2 more in omega (arith, above, up.0)
]

pub ids-rise : (least most : ℕ) (ids : List ℕ) → IdsAscend least most ids → 1 ≤ length ids → least ≤ most
ids-rise least most [] up some = absurd (omega arith)
ids-rise least most (id ∷ ids) up some = omega (arith, up.0, up.1)

-- the first of them
pub with-first : (table : ℕ) (ids : List ℕ) (es : List Entry) (low : List ℕ) → length ids ≡ length es → first_key es ≡ Some low → (n : Leaf) × Contains (leaves_with table ids es) n × (n.entry.key ≡ low)
with-first table ids [] low many begins = absurd cc
with-first table [] (e ∷ es) low many begins = absurd (omega arith)
with-first table (id ∷ ids) (e ∷ es) low many begins = (new_leaf table id e, head-in (new_leaf table id e) (leaves_with table ids es), same_Some e.key low begins)

-- the low key of none is below the first one's
abbrev pub IsFrom : List ℕ → List ℕ → Type 0
IsFrom low key = (low ≡ key) ⊎ (is_below low key ≡ true)

climb-from : (table : ℕ) (ids : List ℕ) (e : Entry) (es end : List Entry) (n : Leaf) → Climbs (e ∷ (es ++ end)) → Contains (leaves_with table ids (e ∷ es)) n → IsFrom e.key n.entry.key
climb-from table [] e es end n climbs c = absurd (omega (arith, c.1))
climb-from table (id ∷ []) e es end n climbs c = elim (split (new_leaf table id e) n [] c) [
  | inl same ↦ inl (ap (λ (m : Leaf). m.entry.key) same)
  | inr none ↦ absurd (omega (arith, none.1))
]
climb-from table (id ∷ next ∷ ids) e [] end n climbs c = elim (split (new_leaf table id e) n [] c) [
  | inl same ↦ inl (ap (λ (m : Leaf). m.entry.key) same)
  | inr none ↦ absurd (omega (arith, none.1))
]
climb-from table (id ∷ next ∷ ids) e (f ∷ es) end n climbs c = elim (split (new_leaf table id e) n (leaves_with table (next ∷ ids) (f ∷ es)) c) [
  | inl same ↦ inl (ap (λ (m : Leaf). m.entry.key) same)
  | inr more ↦ elim (climb-from table (next ∷ ids) f es end n climbs.1 more) [
    | inl same ↦ inr (subst (λ (k : List ℕ). is_below e.key k ≡ true) same climbs.0)
    | inr up ↦ inr (below-on e.key f.key n.entry.key climbs.0 up)
  ]
]

pub with-low : (table : ℕ) (ids : List ℕ) (es end : List Entry) (low : List ℕ) (n : Leaf) → first_key es ≡ Some low → Climbs (es ++ end) → Contains (leaves_with table ids es) n → IsFrom low n.entry.key
with-low table ids [] end low n begins climbs c = absurd cc
with-low table ids (e ∷ es) end low n begins climbs c = subst (λ (k : List ℕ). IsFrom k n.entry.key) (same_Some e.key low begins) (climb-from table ids e es end n climbs c)

-- a key by which one begins is one by which the first does
pub begins-from-low : (table : ℕ) (key : List ℕ) (l n : Leaf) → n.table ≡ l.table → IsFrom l.entry.key n.entry.key → begins_by table key n ≡ true → begins_by table key l ≡ true
begins-from-low table key l n same from b = begins-here table key l (sym same ∙ begins-table table key n b) (false_from_ne_true (is_below key l.entry.key) (λ low.
    both_ways (is_below key n.entry.key) (begins-low table key n b) (elim from [
      | inl e ↦ subst (λ (k : List ℕ). is_below key k ≡ true) e low
      | inr up ↦ below-on key l.entry.key n.entry.key low up
    ])))
