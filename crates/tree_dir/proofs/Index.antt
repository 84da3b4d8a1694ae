-- The slots in the order of tables and low keys: what a search goes by, and what a change keeps.
use Rattle.std.proofs.Common.{◌≡◌, ℕ, ◌<◌, ◌≤◌, List, [], length, get_or, refl, sym, ap, subst, ◌∙◌, inl, inr, arith}
use Rattle.std.specs.List.{HoldsAt}
use Rattle.std.specs.List.Sorted.{IsPartitionPoint}
use Rattle.std.specs.Ordering.{nat_cmp, ordering_index}
use Rattle.std.specs.Cmp.Lexicographic.{slice_cmp}
use Rattle.std.specs.declared.cmp.Ordering.{Ordering}
use Rattle.std.specs.declared.cmp.Ordering.TheVariants.{Less, Equal, Greater}
use Rattle.std.proofs.lemmas.Bool.{cases_lt}
use Rattle.std.proofs.lemmas.Cmp.{nat_list_cmp_total, tied_itself, alike_right}
use Rattle.std.proofs.lemmas.List.{get_or_past}
use Rattle.std.proofs.lemmas.List.Elements.{at_from_Contains}
use Rattle.std.proofs.lemmas.Map.Lookups.{exact_bytes}
use Rattle.ordered_groups.specs.Groups.{entries}
use Rattle.ordered_groups.specs.Places.{Rises, rank, IsPlace, IsGap}
use Rattle.ordered_groups.specs.declared.Place.{Place}
use Rattle.ordered_groups.proofs.Entries.{group_in, in_list, length_at, before_all}
use Rattle.tree_dir.specs.declared.leaf.Leaf.{Leaf}
use Rattle.tree_dir.specs.Order.{IsWay, not_above, rank_at, rank_order}

-- ---- places

pub place-within : (gs : List (List ℕ)) (p : Place) → IsPlace gs p → rank gs p < length (entries gs)
place-within gs p here = in_list gs p.group p.at (group_in gs p.group p.at here) here

pub gap-within : (gs : List (List ℕ)) (p : Place) → IsGap gs p → rank gs p ≤ length (entries gs)
gap-within gs p gap = elim (cases_lt p.group (length gs)) [
  | inl l ↦ omega (arith, gap.1, length_at gs p.group l)
  | inr g ↦
      let e = ap length (get_or_past gs p.group [] g) in
      omega (arith, gap.1, e, before_all gs p.group g)
]

-- ---- the order of tables and keys

most : (o : Ordering) → ordering_index o ≤ 2
most Less = omega arith
most Equal = omega arith
most Greater = omega arith

below-rises : (a b k : List ℕ) → slice_cmp nat_cmp a b ≡ Less → ordering_index (slice_cmp nat_cmp a k) ≤ ordering_index (slice_cmp nat_cmp b k)
below-rises a b k lt = by (slice_cmp nat_cmp b k) refl where
  by : (o : Ordering) → slice_cmp nat_cmp b k ≡ o → ordering_index (slice_cmp nat_cmp a k) ≤ ordering_index o
  by Less e = let t = ap ordering_index (nat_list_cmp_total.trans a b k lt e) in omega (arith, t)
  by Equal e = let t = ap ordering_index (sym (alike_right nat_list_cmp_total b k a e) ∙ lt) in omega (arith, t)
  by Greater e = most (slice_cmp nat_cmp a k)

pub rises : (slots : List Leaf) (order : List ℕ) (place : List ℕ) → IsWay slots order → Rises (rank_order slots place) order
rises slots order place ix i j d le lt = elim (cases_lt i j) [
  | inl l ↦ below-rises (rank_at slots (get_or order i d)) (rank_at slots (get_or order j d)) place (ix.ascends i j d l lt)
  | inr g ↦
      let e : i ≡ j = omega (arith, le, g) in
      let same = ap (λ (k : ℕ). ordering_index (rank_order slots place (get_or order k d))) e in
      omega (arith, same)
]

-- ---- no key has two slots

not-below-itself : (k l : List ℕ) → k ≡ l → slice_cmp nat_cmp k l ≡ Less → ⊥
not-below-itself k l same e =
    let t = subst (λ (x : List ℕ). slice_cmp nat_cmp k x ≡ Equal) same (tied_itself nat_list_cmp_total k) in
    let clash = sym e ∙ t in absurd cc

apart : (slots : List Leaf) (order : List ℕ) (p q i j : ℕ) → IsWay slots order → p < q → q < length order → get_or order p 0 ≡ i → get_or order q 0 ≡ j → rank_at slots i ≡ rank_at slots j → ⊥
apart slots order p q i j ix lt within one two same =
    not-below-itself (rank_at slots (get_or order p 0)) (rank_at slots (get_or order q 0))
    (ap (rank_at slots) one ∙ (same ∙ sym (ap (rank_at slots) two)))
    (ix.ascends p q 0 lt within)

pub distinct : (slots : List Leaf) (order : List ℕ) (i j : ℕ) → IsWay slots order → i < length slots → j < length slots → rank_at slots i ≡ rank_at slots j → i ≡ j
distinct slots order i j ix here there same =
    let a = at_from_Contains order i (ix.whole i here) in
    let b = at_from_Contains order j (ix.whole j there) in
    elim (cases_lt a.0 b.0) [
      | inl l ↦ absurd (apart slots order a.0 b.0 i j ix l b.1 (a.2 0) (b.2 0) same)
      | inr g ↦ elim (cases_lt b.0 a.0) [
        | inl l ↦ absurd (apart slots order b.0 a.0 j i ix l a.1 (b.2 0) (a.2 0) (sym same))
        | inr h ↦
            let e : a.0 ≡ b.0 = omega (arith, g, h) in
            sym (a.2 0) ∙ (ap (λ (k : ℕ). get_or order k 0) e ∙ b.2 0)
      ]
    ]

-- ---- a gap above

pub never-tied : (o : Ordering) → not_above o ≡ Equal → ⊥
never-tied Less e = absurd cc
never-tied Equal e = absurd cc
never-tied Greater e = absurd cc

above-rises : (o p : Ordering) → ordering_index o ≤ ordering_index p → ordering_index (not_above o) ≤ ordering_index (not_above p)
above-rises Less p h = omega arith
above-rises Equal p h = omega arith
above-rises Greater Less h = absurd (omega (arith, h))
above-rises Greater Equal h = absurd (omega (arith, h))
above-rises Greater Greater h = omega arith

pub rises-above : (slots : List Leaf) (order : List ℕ) (place : List ℕ) → IsWay slots order → Rises (λ i. not_above (rank_order slots place i)) order
rises-above slots order place ix i j d le lt = above-rises (rank_order slots place (get_or order i d)) (rank_order slots place (get_or order j d)) (rises slots order place ix i j d le lt)

-- ---- what a search finds

-- the slot that a search for the place of a slot finds is that slot
pub found-itself : (slots : List Leaf) (order : List ℕ) (r i : ℕ) → IsWay slots order → r < length order → HoldsAt (λ y. rank_order slots (rank_at slots i) y ≡ Equal) order r → i < length slots → get_or order r 0 ≡ i
found-itself slots order r i ix lt equal here =
    distinct slots order (get_or order r 0) i ix (ix.within r 0 lt) here
    (exact_bytes (rank_at slots (get_or order r 0)) (rank_at slots i) (equal 0))

-- a slot is named once
pub order-once : (slots : List Leaf) (order : List ℕ) (p q : ℕ) → IsWay slots order → p < q → q < length order → get_or order p 0 ≡ get_or order q 0 → ⊥
order-once slots order p q ix lt within e = apart slots order p q (get_or order p 0) (get_or order q 0) ix lt within refl refl (ap (rank_at slots) e)

-- it is found
pub never-missed : (slots : List Leaf) (order : List ℕ) (i r : ℕ) → IsWay slots order → i < length slots → IsPartitionPoint (λ y. rank_order slots (rank_at slots i) y ≡ Less) (λ y. rank_order slots (rank_at slots i) y ≡ Greater) order r → ⊥
never-missed slots order i r ix lt parts =
    let a = at_from_Contains order i (ix.whole i lt) in
    let tied = ap (rank_order slots (rank_at slots i)) (a.2 0) ∙ tied_itself nat_list_cmp_total (rank_at slots i) in
    elim (cases_lt a.0 r) [
      | inl b ↦ let clash = sym (parts.0 a.0 0 (omega arith) b) ∙ tied in absurd cc
      | inr g ↦ let clash = sym (parts.1 a.0 0 g a.1) ∙ tied in absurd cc
    ]

-- ---- what a change keeps

pub way-alike : (slots after : List Leaf) (order : List ℕ) → length after ≡ length slots → ((i : ℕ) → rank_at after i ≡ rank_at slots i) → IsWay slots order → IsWay after order
way-alike slots after order many same ix = record {
  within = λ k d lt. let w = ix.within k d lt in omega (arith, w, many);
  ascends = λ a b d lt le.
      ap (λ (k : List ℕ). slice_cmp nat_cmp k (rank_at after (get_or order b d))) (same (get_or order a d))
      ∙ (ap (λ (k : List ℕ). slice_cmp nat_cmp (rank_at slots (get_or order a d)) k) (same (get_or order b d)) ∙ ix.ascends a b d lt le);
  whole = λ k lt. ix.whole k (omega (arith, lt, many));
}
