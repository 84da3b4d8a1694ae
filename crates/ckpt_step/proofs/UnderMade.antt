-- Of leaves that are made of entries, a key of an entry's image lies in that of the entry.
use Rattle.std.specs.Prelude.{◌≡◌, ℕ, true, false, not, IsTrue, List, [], ◌∷◌, ◌++◌, map, Some, None, refl}
use Rattle.std.specs.List.{Contains}
use Rattle.std.proofs.Common.{inl, inr, sym, ◌∙◌, ap, subst, arith}
use Rattle.std.proofs.lemmas.Bool.{both_ways, not-true}
use Rattle.std.proofs.lemmas.List.{append-nil}
use Rattle.kv_model.specs.Holds.{Member}
use Rattle.row_page.specs.Rows.{Row, is_below}
use Rattle.row_page.proofs.Ascending.{below_trans}
use Rattle.stored.specs.TableTree.{Climbs, Entry, Stay, ends_below, first_key}
use Rattle.tree_dir.specs.declared.leaf.Leaf.{Leaf}
use Rattle.tree_dir.specs.Leaves.{leaf_under, leaves_with}
use Rattle.tree_dir.specs.Slots.{new_leaf}
use Rattle.tree_dir.proofs.LeavesWith.{with-low, with-own}
use Rattle.tree_dir.proofs.Members.{split}
use Rattle.ckpt_step.proofs.EntryImages.{climbs_later, image_from}
use Rattle.ckpt_step.proofs.Members.{all_of, in_back, in_front}
use Rattle.ckpt_step.proofs.TableLeaves.{AreOnce, above_key, begins_parts, member_of, under_head, under_in, under_none, under_tail}

-- ---- the leaves at the end

pub once_behind : (front leaves : List Leaf) → AreOnce (front ++ leaves) → AreOnce leaves
once_behind [] leaves once = once
once_behind (x ∷ front) leaves once = once_behind front leaves once.1

pub under_behind : (table : ℕ) (key : List ℕ) (front leaves : List Leaf) (l : Leaf) → AreOnce (front ++ leaves) → Member l leaves → leaf_under table key (front ++ leaves) ≡ Some l → leaf_under table key leaves ≡ Some l
under_behind table key [] leaves l once there is = is
under_behind table key (x ∷ front) leaves l once there is = under_behind table key front leaves l once.1 there (under_tail table key x (front ++ leaves) l once (in_back front leaves l there) is)

-- ---- leaves made of entries

pub made_entry : (table : ℕ) (ids : List ℕ) (es : List Entry) (m : Leaf) → Contains (leaves_with table ids es) m → Member m.entry es
made_entry table [] es m there = absurd (omega (arith, there.1))
made_entry table (id ∷ ids) [] m there = absurd (omega (arith, there.1))
made_entry table (id ∷ ids) (e ∷ es) m there = elim (split (new_leaf table id e) m (leaves_with table ids es) there) [
  | inl same ↦ inl (ap (λ (x : Leaf). x.entry) (sym same))
  | inr more ↦ inr (made_entry table ids es m more)
]

-- a key that ends below the first of them is below the low key of each
below_made : (table : ℕ) (ids : List ℕ) (es : List Entry) (key : List ℕ) (m : Leaf) → Climbs es → IsTrue (ends_below (first_key es) key) → Contains (leaves_with table ids es) m → is_below key m.entry.key ≡ true
below_made table [] es key m climbs ends there = absurd (omega (arith, there.1))
below_made table (id ∷ ids) [] key m climbs ends there = absurd (omega (arith, there.1))
below_made table (id ∷ ids) (e ∷ es) key m climbs ends there = elim (with-low table (id ∷ ids) (e ∷ es) [] e.key m refl (subst Climbs (sym (append-nil (e ∷ es))) climbs) there) [
  | inl same ↦ subst (λ (k : List ℕ). is_below key k ≡ true) same ends
  | inr up ↦ below_trans key e.key m.entry.key ends up
]

-- back: the leaves behind them; the key is that of a row
module _ (table : ℕ) (rows_of : Entry → List Row) (back : List Leaf) (r : Row) where
  abbrev all_from : List ℕ → List Entry → List Leaf
  all_from ids es = leaves_with table ids es ++ back

  -- each leaf behind that of the row's entry begins above the key
  not_later : (ids : List ℕ) (e : Entry) (es : List Entry) (found : Leaf) → Climbs es → Stay (e ∷ es) (map rows_of (e ∷ es)) → Member r (rows_of e) → Contains (leaves_with table ids es) found → is_below r.0 found.entry.key ≡ false → ⊥
  not_later ids e es found climbs stay own there from =
      let within = all_of (λ (q : Row). IsTrue (not (is_below q.0 e.key)) × IsTrue (ends_below (first_key es) q.0)) (rows_of e) r stay.0 own in
      both_ways (is_below r.0 found.entry.key) from (below_made table ids es r.0 found climbs within.1 there)

  -- and that leaf begins by the key
  not_none : (ids : List ℕ) (es : List Entry) (m : Leaf) → Stay es (map rows_of es) → Contains (leaves_with table ids es) m → Member r (rows_of m.entry) → leaf_under table r.0 (all_from ids es) ≡ None → ⊥
  not_none ids es m stay there own none =
      let from = all_of (λ (q : Row). IsTrue (not (is_below q.0 m.entry.key))) (rows_of m.entry) r (image_from rows_of es m.entry stay (made_entry table ids es m there)) own in
      let isnt = under_none table r.0 (all_from ids es) m none (in_front (leaves_with table ids es) back m (member_of (leaves_with table ids es) m there)) in
      both_ways (is_below r.0 m.entry.key) (not-true (is_below r.0 m.entry.key) from) (above_key table r.0 m (with-own table ids es m there).0 isnt)

  -- where the key lies in one of them, it is that of the row's entry
  pub under_own : (ids : List ℕ) (es : List Entry) (m found : Leaf) → Climbs es → Stay es (map rows_of es) → AreOnce (all_from ids es) → Contains (leaves_with table ids es) m → Member r (rows_of m.entry) → Contains (leaves_with table ids es) found → leaf_under table r.0 (all_from ids es) ≡ Some found
      → found ≡ m
  under_own [] es m found climbs stay once there own among is = absurd (omega (arith, there.1))
  under_own (id ∷ ids) [] m found climbs stay once there own among is = absurd (omega (arith, there.1))
  under_own (id ∷ ids) (e ∷ es) m found climbs stay once there own among is = elim (split (new_leaf table id e) m (leaves_with table ids es) there) [
    | inl same ↦ elim (split (new_leaf table id e) found (leaves_with table ids es) among) [
      | inl also ↦ sym also ∙ same
      | inr later ↦
          let from = begins_parts table r.0 found (under_in table r.0 (all_from (id ∷ ids) (e ∷ es)) found is).1 in
          absurd (not_later ids e es found (climbs_later e es climbs) stay (subst (λ (x : Leaf). Member r (rows_of x.entry)) (sym same) own) later from.1)
    ]
    | inr more ↦ elim (split (new_leaf table id e) found (leaves_with table ids es) among) [
      | inl also ↦ absurd (not_none ids es m stay.1 more own (under_head table r.0 (new_leaf table id e) (all_from ids es) once (is ∙ ap (λ (x : Leaf). Some x) (sym also))))
      | inr later ↦
          let rest = under_tail table r.0 (new_leaf table id e) (all_from ids es) found once (in_front (leaves_with table ids es) back found (member_of (leaves_with table ids es) found later)) is in
          under_own ids es m found (climbs_later e es climbs) stay.1 once.1 more own later rest
    ]
  ]
