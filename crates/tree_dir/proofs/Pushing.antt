-- A new slot behind all others, named between the slots below it and those above.
use Rattle.std.proofs.Common.{◌≡◌, ℕ, zero, suc, ◌+◌, ◌-◌, ◌<◌, ◌≤◌, ◌⊎◌, List, [], ◌∷◌, ◌++◌, length, length-append, get_or, refl, sym, ap, subst, ◌∙◌, inl, inr, arith}
use Rattle.std.specs.List.{AllPairs, Contains, insert}
use Rattle.std.specs.List.Sorted.{IsPartitionPoint}
use Rattle.std.specs.Ordering.{nat_cmp, ordering_reverse}
use Rattle.std.specs.Cmp.Lexicographic.{slice_cmp}
use Rattle.std.specs.declared.cmp.Ordering.TheVariants.{Less, Greater}
use Rattle.std.proofs.lemmas.Bool.{cases_lt}
use Rattle.std.proofs.lemmas.Cmp.{nat_list_cmp_total}
use Rattle.std.proofs.lemmas.List.Edits.{length-insert, get_or-insert_below, get_or-insert_at, get_or-insert_above}
use Rattle.tree_dir.specs.declared.leaf.Leaf.{Leaf}
use Rattle.tree_dir.specs.Leaves.{place_key}
use Rattle.tree_dir.specs.Order.{IsSlotBelow, IsWay, rank_at, rank_order}

-- ---- a list with an element put in

Sides : {X : Type 0} → List X → ℕ → X → ℕ → X → Type 0
Sides {X} xs i y k d =
    ((k < i) × (get_or (insert xs i y) k d ≡ get_or xs k d))
    ⊎ (((k ≡ i) × (get_or (insert xs i y) k d ≡ y)) ⊎ ((j : ℕ) × (k ≡ j + 1) × (i ≤ j) × (get_or (insert xs i y) k d ≡ get_or xs j d)))

sides : {X : Type 0} (xs : List X) (i : ℕ) (y : X) (k : ℕ) (d : X) → i ≤ length xs → Sides xs i y k d
unfolding Sides
sides xs i y k d le = elim (cases_lt k i) [
  | inl b ↦ inl (b, get_or-insert_below xs i y d k b le)
  | inr g ↦ elim (cases_lt i k) [
    | inr h ↦
        let e : k ≡ i = omega (arith, g, h) in
        inr (inl (e, ap (λ (n : ℕ). get_or (insert xs i y) n d) e ∙ get_or-insert_at xs i y d le))
    | inl a ↦
        let back : k ≡ k - 1 + 1 = omega (arith, a) in
        inr (inr (k - 1, back, omega (arith, a), ap (λ (n : ℕ). get_or (insert xs i y) n d) back ∙ get_or-insert_above xs i y d (k - 1) (omega (arith, a)) le))
  ]
]

move : {X : Type 0} (R : X → X → Type 0) (a b c d : X) → a ≡ b → c ≡ d → R b d → R a c
move {X} R a b c d p q r = subst (λ (x : X). R x c) (sym p) (subst (λ (y : X). R b y) (sym q) r)

pairs-insert : {X : Type 0} (R : X → X → Type 0) (xs : List X) (i : ℕ) (y : X) → i ≤ length xs → AllPairs R xs → ((k : ℕ) (d : X) → k < i → R (get_or xs k d) y) → ((k : ℕ) (d : X) → i ≤ k → k < length xs → R y (get_or xs k d)) → AllPairs R (insert xs i y)
unfolding Sides
pairs-insert R xs i y le pairs low high a b d lt within =
    let long = length-insert xs i y le in
    let x = get_or (insert xs i y) a d in
    let z = get_or (insert xs i y) b d in
    elim (sides xs i y a d le) [
      | inl p ↦ elim (sides xs i y b d le) [
        | inl q ↦ move R x (get_or xs a d) z (get_or xs b d) p.1 q.1 (pairs a b d lt (omega (arith, q.0, le)))
        | inr (inl q) ↦ move R x (get_or xs a d) z y p.1 q.1 (low a d p.0)
        | inr (inr q) ↦ move R x (get_or xs a d) z (get_or xs q.0 d) p.1 q.3 (pairs a q.0 d (omega (arith, p.0, q.2)) (omega (arith, q.1, within, long)))
      ]
      | inr (inl p) ↦ elim (sides xs i y b d le) [
        | inl q ↦ absurd (omega (arith, p.0, q.0, lt))
        | inr (inl q) ↦ absurd (omega (arith, p.0, q.0, lt))
        | inr (inr q) ↦ move R x y z (get_or xs q.0 d) p.1 q.3 (high q.0 d q.2 (omega (arith, q.1, within, long)))
      ]
      | inr (inr p) ↦ elim (sides xs i y b d le) [
        | inl q ↦ absurd (omega (arith, p.1, p.2, q.0, lt))
        | inr (inl q) ↦ absurd (omega (arith, p.1, p.2, q.0, lt))
        | inr (inr q) ↦ move R x (get_or xs p.0 d) z (get_or xs q.0 d) p.3 q.3 (pairs p.0 q.0 d (omega (arith, p.1, q.1, lt)) (omega (arith, q.1, within, long)))
      ]
    ]

contains-old : {X : Type 0} (xs : List X) (i : ℕ) (y x : X) → i ≤ length xs → Contains xs x → Contains (insert xs i y) x
contains-old xs i y x le c =
    let long = length-insert xs i y le in
    elim (cases_lt c.0 i) [
      | inl b ↦ (c.0, omega (arith, c.1, long), get_or-insert_below xs i y x c.0 b le ∙ c.2)
      | inr g ↦ (c.0 + 1, omega (arith, c.1, long), get_or-insert_above xs i y x c.0 g le ∙ c.2)
    ]

contains-new : {X : Type 0} (xs : List X) (i : ℕ) (y : X) → i ≤ length xs → Contains (insert xs i y) y
contains-new xs i y le = (i, omega (arith, le, length-insert xs i y le), get_or-insert_at xs i y y le)

-- ---- slots with a new one

pub rank-pushed : (slots : List Leaf) (s : Leaf) (i : ℕ) → i < length slots → rank_at (slots ++ s ∷ []) i ≡ rank_at slots i
rank-pushed [] s i lt = absurd (omega (arith, lt))
rank-pushed (x ∷ slots) s zero lt = refl
rank-pushed (x ∷ slots) s (suc i) lt = rank-pushed slots s i (omega (arith, lt))

pub rank-new : (slots : List Leaf) (s : Leaf) → rank_at (slots ++ s ∷ []) (length slots) ≡ place_key s
rank-new [] s = refl
rank-new (x ∷ slots) s = rank-new slots s

below-pushed : (slots : List Leaf) (s : Leaf) (i j : ℕ) → i < length slots → j < length slots → IsSlotBelow slots i j → IsSlotBelow (slots ++ s ∷ []) i j
below-pushed slots s i j here there h =
    ap (λ (k : List ℕ). slice_cmp nat_cmp k (rank_at (slots ++ s ∷ []) j)) (rank-pushed slots s i here)
    ∙ (ap (λ (k : List ℕ). slice_cmp nat_cmp (rank_at slots i) k) (rank-pushed slots s j there) ∙ h)

pub turned : (a b : List ℕ) → slice_cmp nat_cmp a b ≡ Greater → slice_cmp nat_cmp b a ≡ Less
turned a b e = nat_list_cmp_total.antisymm b a ∙ ap ordering_reverse e

pub way-pushed : (slots : List Leaf) (order : List ℕ) (r : ℕ) (s : Leaf) → IsWay slots order → r ≤ length order → IsPartitionPoint (λ y. rank_order slots (place_key s) y ≡ Less) (λ y. rank_order slots (place_key s) y ≡ Greater) order r → IsWay (slots ++ s ∷ []) (insert order r (length slots))
unfolding Sides
way-pushed slots order r s ix le parts =
    let after = slots ++ s ∷ [] in
    let n = length slots in
    let many = length-append slots (s ∷ []) in
    let long = length-insert order r n le in
    let key = rank-new slots s in
    record {
      within = λ k d lt. elim (sides order r n k d le) [
        | inl p ↦ let w = ix.within k d (omega (arith, p.0, le)) in let e = p.1 in omega (arith, w, e, many)
        | inr (inl p) ↦ let e = p.1 in omega (arith, e, many)
        | inr (inr p) ↦ let w = ix.within p.0 d (omega (arith, p.1, lt, long)) in let e = p.3 in omega (arith, w, e, many)
      ];
      ascends = pairs-insert (IsSlotBelow after) order r n le
          (λ a b d lt here. below-pushed slots s (get_or order a d) (get_or order b d) (ix.within a d (omega (arith, lt, here))) (ix.within b d here) (ix.ascends a b d lt here))
          (λ k d lt.
          ap (λ (x : List ℕ). slice_cmp nat_cmp x (rank_at after n)) (rank-pushed slots s (get_or order k d) (ix.within k d (omega (arith, lt, le))))
          ∙ (ap (λ (x : List ℕ). slice_cmp nat_cmp (rank_at slots (get_or order k d)) x) key ∙ parts.0 k d (omega arith) lt))
          (λ k d from lt.
          ap (λ (x : List ℕ). slice_cmp nat_cmp x (rank_at after (get_or order k d))) key
          ∙ (ap (λ (x : List ℕ). slice_cmp nat_cmp (place_key s) x) (rank-pushed slots s (get_or order k d) (ix.within k d lt)) ∙ turned (rank_at slots (get_or order k d)) (place_key s) (parts.1 k d from lt)));
      whole = λ i lt. elim (cases_lt i n) [
        | inl here ↦ contains-old order r n i le (ix.whole i here)
        | inr there ↦
            let e : n ≡ i = omega (arith, lt, there, many) in
            subst (λ (k : ℕ). Contains (insert order r n) k) e (contains-new order r n le)
      ];
    }
