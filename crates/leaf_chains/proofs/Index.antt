-- The slots in the order of their keys: what a search by key finds, and what a change keeps.
use Rattle.std.proofs.Common.{◌≡◌, ℕ, zero, suc, ◌<◌, ◌≤◌, List, [], ◌∷◌, length, get_or, Option, Some, None, Bor, refl, sym, ap, subst, ◌∙◌, inl, inr, arith}
use Rattle.std.specs.Prelude.{slice_get, option_copied, IfSome}
use Rattle.std.specs.List.{HoldsAt}
use Rattle.std.specs.List.Sorted.{IsPartitionPoint}
use Rattle.std.specs.Ordering.{nat_cmp, ordering_index}
use Rattle.std.specs.Cmp.Lexicographic.{slice_cmp}
use Rattle.std.specs.declared.cmp.Ordering.{Ordering}
use Rattle.std.specs.declared.cmp.Ordering.TheVariants.{Less, Equal, Greater}
use Rattle.std.proofs.lemmas.Bool.{cases_lt}
use Rattle.std.proofs.lemmas.Cmp.{nat_list_cmp_total, tied_itself, alike_right}
use Rattle.std.proofs.lemmas.List.{get_or_past}
use Rattle.std.proofs.lemmas.List.Elements.{at_from_Contains}
use Rattle.std.proofs.lemmas.Map.Lookups.{exact_bytes}
use Rattle.ordered_groups.specs.Groups.{entries}
use Rattle.ordered_groups.specs.Places.{Rises, rank, IsPlace, IsGap}
use Rattle.ordered_groups.specs.declared.Place.{Place}
use Rattle.ordered_groups.proofs.Entries.{group_in, in_list, length_at, before_all}
use Rattle.update_chain.specs.declared.update.Update.{Update}
use Rattle.leaf_chains.specs.declared.slot.KeyChain.{KeyChain}
use Rattle.leaf_chains.specs.Slots.{slot_of, key_at, key_of, slot_changed}
use Rattle.leaf_chains.specs.Order.{IsIndex, key_order}
use Rattle.leaf_chains.proofs.Changes.{slot_of_is, slot_of_none, length_changed, key_changed}

-- ---- places

pub place_within : (gs : List (List ℕ)) (p : Place) → IsPlace gs p → rank gs p < length (entries gs)
place_within gs p here = in_list gs p.group p.at (group_in gs p.group p.at here) here

pub gap_within : (gs : List (List ℕ)) (p : Place) → IsGap gs p → rank gs p ≤ length (entries gs)
gap_within gs p gap = elim (cases_lt p.group (length gs)) [
  | inl l ↦ omega (arith, gap.1, length_at gs p.group l)
  | inr g ↦
      let e = ap length (get_or_past gs p.group [] g) in
      omega (arith, gap.1, e, before_all gs p.group g)
]

-- ---- the order of keys

most : (o : Ordering) → ordering_index o ≤ 2
most Less = omega arith
most Equal = omega arith
most Greater = omega arith

pub below_rises : (a b k : List ℕ) → slice_cmp nat_cmp a b ≡ Less → ordering_index (slice_cmp nat_cmp a k) ≤ ordering_index (slice_cmp nat_cmp b k)
below_rises a b k lt = by (slice_cmp nat_cmp b k) refl where
  by : (o : Ordering) → slice_cmp nat_cmp b k ≡ o → ordering_index (slice_cmp nat_cmp a k) ≤ ordering_index o
  by Less e = let t = ap ordering_index (nat_list_cmp_total.trans a b k lt e) in omega (arith, t)
  by Equal e = let t = ap ordering_index (sym (alike_right nat_list_cmp_total b k a e) ∙ lt) in omega (arith, t)
  by Greater e = most (slice_cmp nat_cmp a k)

pub rises : (slots : List KeyChain) (order : List ℕ) (key : List ℕ) → IsIndex slots order → Rises (key_order slots key) order
rises slots order key ix i j d le lt = elim (cases_lt i j) [
  | inl l ↦ below_rises (key_at slots (get_or order i d)) (key_at slots (get_or order j d)) key (ix.ascends i j d l lt)
  | inr g ↦
      let e : i ≡ j = omega (arith, le, g) in
      let same = ap (λ (k : ℕ). ordering_index (key_order slots key (get_or order k d))) e in
      omega (arith, same)
]

-- ---- no key has two slots

not_below_itself : (k l : List ℕ) → k ≡ l → slice_cmp nat_cmp k l ≡ Less → ⊥
not_below_itself k l same e =
    let t = subst (λ (x : List ℕ). slice_cmp nat_cmp k x ≡ Equal) same (tied_itself nat_list_cmp_total k) in
    let clash = sym e ∙ t in absurd cc

apart : (slots : List KeyChain) (order : List ℕ) (p q i j : ℕ) → IsIndex slots order → p < q → q < length order → get_or order p 0 ≡ i → get_or order q 0 ≡ j → key_at slots i ≡ key_at slots j → ⊥
apart slots order p q i j ix lt within one two same =
    not_below_itself (key_at slots (get_or order p 0)) (key_at slots (get_or order q 0))
    (ap (key_at slots) one ∙ (same ∙ sym (ap (key_at slots) two)))
    (ix.ascends p q 0 lt within)

pub distinct : (slots : List KeyChain) (order : List ℕ) (i j : ℕ) → IsIndex slots order → i < length slots → j < length slots → key_at slots i ≡ key_at slots j → i ≡ j
distinct slots order i j ix here there same =
    let a = at_from_Contains order i (ix.whole i here) in
    let b = at_from_Contains order j (ix.whole j there) in
    elim (cases_lt a.0 b.0) [
      | inl l ↦ absurd (apart slots order a.0 b.0 i j ix l b.1 (a.2 0) (b.2 0) same)
      | inr g ↦ elim (cases_lt b.0 a.0) [
        | inl l ↦ absurd (apart slots order b.0 a.0 j i ix l a.1 (b.2 0) (a.2 0) (sym same))
        | inr h ↦
            let e : a.0 ≡ b.0 = omega (arith, g, h) in
            sym (a.2 0) ∙ (ap (λ (k : ℕ). get_or order k 0) e ∙ b.2 0)
      ]
    ]

-- ---- what a search answers

pub found_slot : (slots : List KeyChain) (order : List ℕ) (key : List ℕ) (r e : ℕ) → IsIndex slots order → r < length order → HoldsAt (λ y. e ≡ y) order r → HoldsAt (λ y. key_order slots key y ≡ Equal) order r → slot_of key slots ≡ Some e
found_slot slots order key r e ix lt is equal =
    let same : key_at slots e ≡ key = exact_bytes (key_at slots e) key (ap (key_order slots key) (is 0) ∙ equal 0) in
    let within : e < length slots = subst (λ (k : ℕ). k < length slots) (sym (is 0)) (ix.within r 0 lt) in
    slot_of_is key slots e within same (λ j l k. let q = distinct slots order j e ix (omega (arith, l, within)) within (k ∙ sym same) in omega (arith, q, l))

pub no_slot : (slots : List KeyChain) (order : List ℕ) (key : List ℕ) (r : ℕ) → IsIndex slots order → IsPartitionPoint (λ y. key_order slots key y ≡ Less) (λ y. key_order slots key y ≡ Greater) order r → slot_of key slots ≡ None
no_slot slots order key r ix parts = slot_of_none key slots (λ i l same.
    let a = at_from_Contains order i (ix.whole i l) in
    let tied = ap (key_order slots key) (a.2 0) ∙ (ap (λ (k : List ℕ). slice_cmp nat_cmp k key) same ∙ tied_itself nat_list_cmp_total key) in
    elim (cases_lt a.0 r) [
      | inl b ↦ let clash = sym (parts.0 a.0 0 (omega arith) b) ∙ tied in absurd cc
      | inr g ↦ let clash = sym (parts.1 a.0 0 g a.1) ∙ tied in absurd cc
    ])

-- ---- a change in a slot

pub index_changed : (i : ℕ) (change : List Update → List Update) (slots : List KeyChain) (order : List ℕ) → IsIndex slots order → IsIndex (slot_changed i change slots) order
index_changed i change slots order ix =
    let after = slot_changed i change slots in
    record {
      within = λ k d lt. let w = ix.within k d lt in omega (arith, w, length_changed i change slots);
      ascends = λ a b d lt le.
          ap (λ (k : List ℕ). slice_cmp nat_cmp k (key_at after (get_or order b d))) (key_changed i change slots (get_or order a d))
          ∙ (ap (λ (k : List ℕ). slice_cmp nat_cmp (key_at slots (get_or order a d)) k) (key_changed i change slots (get_or order b d)) ∙ ix.ascends a b d lt le);
      whole = λ k lt. ix.whole k (omega (arith, lt, length_changed i change slots));
    }

-- ---- each slot is its key's

within : (slots : List KeyChain) (i : ℕ) (s : KeyChain) → slice_get slots i ≡ Some s → i < length slots
within [] i s e = absurd cc
within (x ∷ slots) zero s e = omega arith
within (x ∷ slots) (suc i) s e = let h = within slots i s e in omega (arith, h)

its_keys : (slots : List KeyChain) (order : List ℕ) (i : ℕ) → IsIndex slots order → i < length slots → slot_of (key_at slots i) slots ≡ Some i
its_keys slots order i ix lt =
    slot_of_is (key_at slots i) slots i lt refl (λ j l same. let q = distinct slots order j i ix (omega (arith, l, lt)) lt same in omega (arith, q, l))

pub own_slot : (slots : List KeyChain) (order : List ℕ) (i : ℕ) (o : Option (Bor KeyChain)) → IsIndex slots order → option_copied o ≡ slice_get slots i → IfSome o (λ s. slot_of s.now.key slots ≡ Some i)
own_slot slots order i None ix e = tt
own_slot slots order i (Some s) ix e =
    subst (λ (k : List ℕ). slot_of k slots ≡ Some i) (ap key_of (sym e)) (its_keys slots order i ix (within slots i s.now (sym e)))
