-- The slots in the order of their tables and keys: what a search finds, and what a change keeps.
use Rattle.std.proofs.Common.{◌≡◌, ℕ, zero, suc, ◌<◌, ◌≤◌, List, [], ◌∷◌, length, map, get_or, drop, Option, Some, None, Bor, refl, sym, ap, subst, ◌∙◌, inl, inr, arith}
use Rattle.std.specs.Prelude.{slice_get, option_copied, option_map, IfSome, MatchOption}
use Rattle.std.specs.List.{HoldsAt}
use Rattle.std.specs.List.Sorted.{IsPartitionPoint}
use Rattle.std.specs.Ordering.{nat_cmp, ordering_index}
use Rattle.std.specs.Cmp.Lexicographic.{slice_cmp}
use Rattle.std.specs.declared.cmp.Ordering.{Ordering}
use Rattle.std.specs.declared.cmp.Ordering.TheVariants.{Less, Equal, Greater}
use Rattle.std.proofs.lemmas.Bool.{cases_lt}
use Rattle.std.proofs.lemmas.Cmp.{nat_list_cmp_total, tied_itself, alike_right}
use Rattle.std.proofs.lemmas.List.{get_or_past}
use Rattle.std.proofs.lemmas.List.Elements.{at_from_Contains}
use Rattle.std.proofs.lemmas.Map.Lookups.{exact_bytes}
use Rattle.std.proofs.lemmas.Option.{same_Some}
use Rattle.item.specs.declared.Change.{Change}
use Rattle.stamp.specs.declared.Name.{Name}
use Rattle.stamp.specs.declared.Version.{Version}
use Rattle.kv_model.specs.Holds.{Descends}
use Rattle.kv_model.specs.Ordered.{Older}
use Rattle.ordered_groups.specs.Groups.{entries}
use Rattle.ordered_groups.specs.Places.{Rises, rank, IsPlace, IsGap}
use Rattle.ordered_groups.specs.declared.Place.{Place}
use Rattle.ordered_groups.proofs.Entries.{group_in, in_list, length_at, before_all}
use Rattle.hist_store.specs.declared.key_history.KeyHistory.{KeyHistory}
use Rattle.hist_store.specs.Order.{IsWay, rank_at, rank_order, slot_key}
use Rattle.hist_store.specs.Slots.{AreDescending, slot_changed, slot_of}
use Rattle.hist_store.specs.Versions.{swept_slot, versions_of}
use Rattle.hist_store.proofs.ByKey.{descend-at, held, length-changed, length-swept, rank-changed, rank-swept, slot-of-is, slot-of-none}

-- ---- places

pub place-within : (gs : List (List ℕ)) (p : Place) → IsPlace gs p → rank gs p < length (entries gs)
place-within gs p here = in_list gs p.group p.at (group_in gs p.group p.at here) here

pub gap-within : (gs : List (List ℕ)) (p : Place) → IsGap gs p → rank gs p ≤ length (entries gs)
gap-within gs p gap = elim (cases_lt p.group (length gs)) [
  | inl l ↦ omega (arith, gap.1, length_at gs p.group l)
  | inr g ↦
      let e = ap length (get_or_past gs p.group [] g) in
      omega (arith, gap.1, e, before_all gs p.group g)
]

-- ---- the order of tables and keys

most : (o : Ordering) → ordering_index o ≤ 2
most Less = omega arith
most Equal = omega arith
most Greater = omega arith

below-rises : (a b k : List ℕ) → slice_cmp nat_cmp a b ≡ Less → ordering_index (slice_cmp nat_cmp a k) ≤ ordering_index (slice_cmp nat_cmp b k)
below-rises a b k lt = by (slice_cmp nat_cmp b k) refl where
  by : (o : Ordering) → slice_cmp nat_cmp b k ≡ o → ordering_index (slice_cmp nat_cmp a k) ≤ ordering_index o
  by Less e = let t = ap ordering_index (nat_list_cmp_total.trans a b k lt e) in omega (arith, t)
  by Equal e = let t = ap ordering_index (sym (alike_right nat_list_cmp_total b k a e) ∙ lt) in omega (arith, t)
  by Greater e = most (slice_cmp nat_cmp a k)

pub rises : (slots : List KeyHistory) (order : List ℕ) (place : List ℕ) → IsWay slots order → Rises (rank_order slots place) order
rises slots order place ix i j d le lt = elim (cases_lt i j) [
  | inl l ↦ below-rises (rank_at slots (get_or order i d)) (rank_at slots (get_or order j d)) place (ix.ascends i j d l lt)
  | inr g ↦
      let e : i ≡ j = omega (arith, le, g) in
      let same = ap (λ (k : ℕ). ordering_index (rank_order slots place (get_or order k d))) e in
      omega (arith, same)
]

-- ---- no key has two slots

not-below-itself : (k l : List ℕ) → k ≡ l → slice_cmp nat_cmp k l ≡ Less → ⊥
not-below-itself k l same e =
    let t = subst (λ (x : List ℕ). slice_cmp nat_cmp k x ≡ Equal) same (tied_itself nat_list_cmp_total k) in
    let clash = sym e ∙ t in absurd cc

apart : (slots : List KeyHistory) (order : List ℕ) (p q i j : ℕ) → IsWay slots order → p < q → q < length order → get_or order p 0 ≡ i → get_or order q 0 ≡ j → rank_at slots i ≡ rank_at slots j → ⊥
apart slots order p q i j ix lt within one two same =
    not-below-itself (rank_at slots (get_or order p 0)) (rank_at slots (get_or order q 0))
    (ap (rank_at slots) one ∙ (same ∙ sym (ap (rank_at slots) two)))
    (ix.ascends p q 0 lt within)

distinct : (slots : List KeyHistory) (order : List ℕ) (i j : ℕ) → IsWay slots order → i < length slots → j < length slots → rank_at slots i ≡ rank_at slots j → i ≡ j
distinct slots order i j ix here there same =
    let a = at_from_Contains order i (ix.whole i here) in
    let b = at_from_Contains order j (ix.whole j there) in
    elim (cases_lt a.0 b.0) [
      | inl l ↦ absurd (apart slots order a.0 b.0 i j ix l b.1 (a.2 0) (b.2 0) same)
      | inr g ↦ elim (cases_lt b.0 a.0) [
        | inl l ↦ absurd (apart slots order b.0 a.0 j i ix l a.1 (b.2 0) (a.2 0) (sym same))
        | inr h ↦
            let e : a.0 ≡ b.0 = omega (arith, g, h) in
            sym (a.2 0) ∙ (ap (λ (k : ℕ). get_or order k 0) e ∙ b.2 0)
      ]
    ]

-- ---- what a search answers

pub found-slot : (slots : List KeyHistory) (order : List ℕ) (table : ℕ) (key : List ℕ) (r e : ℕ) → IsWay slots order → r < length order → HoldsAt (λ y. e ≡ y) order r → HoldsAt (λ y. rank_order slots (table ∷ key) y ≡ Equal) order r → slot_of table key slots ≡ Some e
found-slot slots order table key r e ix lt is equal =
    let same : rank_at slots e ≡ table ∷ key = exact_bytes (rank_at slots e) (table ∷ key) (ap (rank_order slots (table ∷ key)) (is 0) ∙ equal 0) in
    let within : e < length slots = subst (λ (k : ℕ). k < length slots) (sym (is 0)) (ix.within r 0 lt) in
    slot-of-is table key slots e within same (λ j l k. let q = distinct slots order j e ix (omega (arith, l, within)) within (k ∙ sym same) in omega (arith, q, l))

pub no-slot : (slots : List KeyHistory) (order : List ℕ) (table : ℕ) (key : List ℕ) (r : ℕ) → IsWay slots order → IsPartitionPoint (λ y. rank_order slots (table ∷ key) y ≡ Less) (λ y. rank_order slots (table ∷ key) y ≡ Greater) order r → slot_of table key slots ≡ None
no-slot slots order table key r ix parts = slot-of-none table key slots (λ i l same.
    let a = at_from_Contains order i (ix.whole i l) in
    let tied = ap (rank_order slots (table ∷ key)) (a.2 0) ∙ (ap (λ (k : List ℕ). slice_cmp nat_cmp k (table ∷ key)) same ∙ tied_itself nat_list_cmp_total (table ∷ key)) in
    elim (cases_lt a.0 r) [
      | inl b ↦ let clash = sym (parts.0 a.0 0 (omega arith) b) ∙ tied in absurd cc
      | inr g ↦ let clash = sym (parts.1 a.0 0 g a.1) ∙ tied in absurd cc
    ])

-- ---- what a change keeps

way-alike : (slots after : List KeyHistory) (order : List ℕ) → length after ≡ length slots → ((i : ℕ) → rank_at after i ≡ rank_at slots i) → IsWay slots order → IsWay after order
way-alike slots after order many same ix = record {
  within = λ k d lt. let w = ix.within k d lt in omega (arith, w, many);
  ascends = λ a b d lt le.
      ap (λ (k : List ℕ). slice_cmp nat_cmp k (rank_at after (get_or order b d))) (same (get_or order a d))
      ∙ (ap (λ (k : List ℕ). slice_cmp nat_cmp (rank_at slots (get_or order a d)) k) (same (get_or order b d)) ∙ ix.ascends a b d lt le);
  whole = λ k lt. ix.whole k (omega (arith, lt, many));
}

pub way-changed : (i : ℕ) (change : List (Version Change) → List (Version Change)) (slots : List KeyHistory) (order : List ℕ) → IsWay slots order → IsWay (slot_changed i change slots) order
way-changed i change slots order ix = way-alike slots (slot_changed i change slots) order (length-changed i change slots) (rank-changed i change slots) ix

pub way-swept : (pin : ℕ) (floor : Name) (slots : List KeyHistory) (order : List ℕ) → IsWay slots order → IsWay (map (swept_slot pin floor) slots) order
way-swept pin floor slots order ix = way-alike slots (map (swept_slot pin floor) slots) order (length-swept pin floor slots) (rank-swept pin floor slots) ix

pub way-whole : (slots : List KeyHistory) (order : List ℕ) (r : ℕ) → r ≡ 0 → IsWay slots order → IsWay slots (drop r order)
way-whole slots order r start ix = subst (λ (k : ℕ). IsWay slots (drop k order)) (sym start) ix

-- ---- each slot is its key's

within : (slots : List KeyHistory) (i : ℕ) (h : KeyHistory) → slice_get slots i ≡ Some h → i < length slots
within [] i h e = absurd cc
within (x ∷ slots) zero h e = omega arith
within (x ∷ slots) (suc i) h e = let at = within slots i h e in omega (arith, at)

rank-read : (slots : List KeyHistory) (i : ℕ) (h : KeyHistory) → slice_get slots i ≡ Some h → rank_at slots i ≡ slot_key h
rank-read [] i h e = absurd cc
rank-read (x ∷ slots) zero h e = ap slot_key (same_Some x h e)
rank-read (x ∷ slots) (suc i) h e = rank-read slots i h e

pub own-versions : (slots : List KeyHistory) (order : List ℕ) (i : ℕ) (o : Option (Bor KeyHistory)) → IsWay slots order → option_copied o ≡ slice_get slots i → IfSome o (λ h. versions_of h.now.table h.now.key slots ≡ h.now.versions)
own-versions slots order i None ix e = tt
own-versions slots order i (Some h) ix e =
    let there = sym e in
    let lt = within slots i h.now there in
    let same = rank-read slots i h.now there in
    let found = slot-of-is h.now.table h.now.key slots i lt same (λ j l k. let q = distinct slots order j i ix (omega (arith, l, lt)) lt (k ∙ sym same) in omega (arith, q, l)) in
    sym (same_Some h.now.versions (versions_of h.now.table h.now.key slots) (ap (option_map (λ (x : KeyHistory). x.versions)) e ∙ held h.now.table h.now.key slots i found))

pub own-descend : (slots : List KeyHistory) (i : ℕ) (o : Option (Bor KeyHistory)) → AreDescending slots → option_copied o ≡ slice_get slots i → IfSome o (λ h. Descends Older h.now.versions)
own-descend slots i None d e = tt
own-descend slots i (Some h) d e = descend-at slots i h.now d (sym e)

-- versions that are lent, by what they hold
pub read-versions : (o : Option (Bor (List (Version Change)))) (versions : List (Version Change)) → option_copied o ≡ Some versions → MatchOption o (versions ≡ []) (λ v. v.now ≡ versions)
read-versions None versions e = absurd cc
read-versions (Some v) versions e = same_Some v.now versions e
