-- The versions of a key, sorted by their stamps.
use Rattle.std.proofs.Common.{◌≡◌, ◌<◌, ◌≤◌, ◌+◌, ◌++◌, ◌∙◌, ℕ, zero, suc, Bool, true, false, cond, List, [], ◌∷◌, length, get_or, map, take, Bor, Some, None, refl, sym, ap, subst, inl, inr, arith}
use Rattle.std.specs.Prelude.{◌==◌, nat_lt, slice_get, IsPermutation}
use Rattle.std.specs.List.{IsDistinct}
use Rattle.std.specs.List.Sorted.{IsSortedBy}
use Rattle.std.specs.Ordering.{nat_cmp, ordering_then, ordering_reverse, is_lt}
use Rattle.std.specs.Cmp.{IsTotalOrder}
use Rattle.std.specs.declared.cmp.Ordering.{Ordering}
use Rattle.std.specs.declared.cmp.Ordering.TheVariants.{Less, Equal, Greater}
use Rattle.std.proofs.lemmas.Bool.{cases_Bool, both_ways, and_parts, and_from, false_from_ne_true, eqb-true, eq-eqb}
use Rattle.std.proofs.lemmas.Cmp.{then_total, on_total, nat_cmp_total}
use Rattle.std.proofs.lemmas.List.{map-append}
use Rattle.std.proofs.lemmas.List.Sorted.{sorted_far, ranks_by, IsPermutation-map, IsPermutation-sym}
use Rattle.std.proofs.lemmas.Option.{same_Some, slice_get_within}
use Rattle.std.proofs.lemmas.Map.Keys.{IsDistinct-head, IsDistinct-tail, IsDistinct-IsPermutation}
use Rattle.item.specs.declared.change.Change.{Change}
use Rattle.stamp.specs.declared.Name.{Name}
use Rattle.stamp.specs.declared.Version.{Version}
use Rattle.kv_model.specs.Holds.{Descends, Member}
use Rattle.kv_model.specs.History.{name_eq}
use Rattle.kv_model.specs.Ordered.{NameBelow, Older}
use Rattle.hist_store.proofs.NamesInOrder.{same-name}
use Rattle.hist_store.specs.declared.key_history.KeyHistory.{KeyHistory}
use Rattle.inner_page.proofs.Lists.{take_step}
use Rattle.hist_pages.specs.Making.{AreByStamp, ComesAfter, records_of}
use Rattle.hist_pages.specs.Records.{record_of, stamp_cmp}
use Rattle.hist_pages.proofs.Members.{mapped_member, members_kept, of_all, all_of, place_of}

abbrev pub now_of : Bor (Version Change) → Version Change
now_of b = b.now

abbrev pub all_now : List (Bor (Version Change)) → List (Version Change)
all_now items = map {A = Bor (Version Change)} (λ b. b.now) items

pub stamp_total : IsTotalOrder stamp_cmp
stamp_total =
    then_total (on_total (λ (v : Version Change). v.window.commit) nat_cmp_total)
    (then_total (on_total (λ (v : Version Change). v.window.name.run) nat_cmp_total) (on_total (λ (v : Version Change). v.window.name.id) nat_cmp_total))

-- ---- versions of one stamp and name

nat_same : (x y : ℕ) → nat_cmp x y ≡ Equal → x ≡ y
nat_same x y e = by (nat_lt x y) (x == y) refl e where
  by : (less same : Bool) → (x == y) ≡ same → cond less Less (cond same Equal Greater) ≡ Equal → x ≡ y
  by true same is e = absurd cc
  by false true is e = eqb-true x y is
  by false false is e = absurd cc

then_equal : (a b : Ordering) → ordering_then a b ≡ Equal → (a ≡ Equal) × (b ≡ Equal)
then_equal Less b e = absurd cc
then_equal Equal b e = (refl, e)
then_equal Greater b e = absurd cc

same_names : Version Change → Version Change → Bool
same_names v w = name_eq v.window.name w.window.name

stamps_same : (v w : Version Change) → stamp_cmp v w ≡ Equal → name_eq v.window.name w.window.name ≡ true
stamps_same v w e =
    let outer = then_equal (nat_cmp v.window.commit w.window.commit) (ordering_then (nat_cmp v.window.name.run w.window.name.run) (nat_cmp v.window.name.id w.window.name.id)) e in
    let inner = then_equal (nat_cmp v.window.name.run w.window.name.run) (nat_cmp v.window.name.id w.window.name.id) outer.1 in
    and_from (v.window.name.run == w.window.name.run) (v.window.name.id == w.window.name.id)
    (eq-eqb v.window.name.run w.window.name.run (nat_same v.window.name.run w.window.name.run inner.0))
    (eq-eqb v.window.name.id w.window.name.id (nat_same v.window.name.id w.window.name.id inner.1))

turn : (x y : Name) → name_eq x y ≡ true → name_eq y x ≡ true
turn x y is =
    let p = and_parts (x.run == y.run) (x.id == y.id) is in
    and_from (y.run == x.run) (y.id == x.id) (eq-eqb y.run x.run (sym (eqb-true x.run y.run p.0))) (eq-eqb y.id x.id (sym (eqb-true x.id y.id p.1)))

flips : (v w : Version Change) → same_names v w ≡ same_names w v
unfolding same_names
flips v w = elim (cases_Bool (name_eq v.window.name w.window.name)) [
  | inl t ↦ t ∙ sym (turn v.window.name w.window.name t)
  | inr f ↦ f ∙ sym (false_from_ne_true (name_eq w.window.name v.window.name) (λ t. both_ways (name_eq v.window.name w.window.name) f (turn w.window.name v.window.name t)))
]

not_itself : (x y : Name) → x ≡ y → NameBelow y x → ⊥
not_itself x y is (inl runs) = let e = ap (λ (n : Name). n.run) is in omega (arith, runs, e)
not_itself x y is (inr ids) = let e = ap (λ (n : Name). n.id) is in let l = ids.1 in omega (arith, l, e)

other_name : (v w : Version Change) → Older w v → same_names v w ≡ false
unfolding same_names
other_name v w older = false_from_ne_true (name_eq v.window.name w.window.name) (λ t. not_itself v.window.name w.window.name (same-name v.window.name w.window.name t) older)

distinct : (versions : List (Version Change)) → Descends Older versions → IsDistinct same_names versions
unfolding IsDistinct
distinct [] d = tt
distinct (v ∷ versions) d = (all_of (λ (w : Version Change). same_names v w ≡ false) versions (λ w there. other_name v w (d.0 w there)), distinct versions d.1)

-- ---- what a sort leaves

abbrev comes_first : Bor (Version Change) → Bor (Version Change) → Bool
comes_first a b = is_lt (stamp_cmp a.now b.now)

-- none comes before one that stands before it
abbrev IsFar : List (Bor (Version Change)) → Type 0
IsFar items = (i j : ℕ) (d : Bor (Version Change)) → i ≤ j → j < length items → comes_first (get_or items j d) (get_or items i d) ≡ false

comes_after : (v w : Version Change) → is_lt (stamp_cmp w v) ≡ false → same_names v w ≡ false → ComesAfter w v
unfolding same_names
comes_after v w late other = record {
  stamps = by (stamp_cmp w v) refl;
  names = λ is. both_ways (name_eq v.window.name w.window.name) other (subst (λ (n : Name). name_eq v.window.name n ≡ true) is (self v.window.name));
} where
  self : (n : Name) → name_eq n n ≡ true
  self n = and_from (n.run == n.run) (n.id == n.id) (eq-eqb n.run n.run refl) (eq-eqb n.id n.id refl)

  by : (o : Ordering) → stamp_cmp w v ≡ o → stamp_cmp v w ≡ Less
  by Less is = absurd (both_ways (is_lt (stamp_cmp w v)) late (ap is_lt is))
  by Equal is = absurd (both_ways (name_eq v.window.name w.window.name) other (turn w.window.name v.window.name (stamps_same w v is)))
  by Greater is = stamp_total.antisymm v w ∙ ap ordering_reverse is

rises : (items : List (Bor (Version Change))) → IsFar items → IsDistinct same_names (all_now items) → Descends ComesAfter (all_now items)
rises [] far apart = tt
rises (b ∷ items) far apart = ((λ w there. above w there), rises items (λ i j d le lt. far (suc i) (suc j) d (omega (arith, le)) (omega (arith, lt))) (IsDistinct-tail same_names b.now (all_now items) apart)) where
  above : (w : Version Change) → Member w (all_now items) → ComesAfter w b.now
  above w there =
      let m = mapped_member now_of w items there in
      let p = place_of m.0 items m.1 in
      let lt = p.1 in
      let late : is_lt (stamp_cmp m.0.now b.now) ≡ false = ap (λ (x : Bor (Version Change)). comes_first x b) (sym (p.2 b)) ∙ far 0 (suc p.0) b (omega arith) (omega (arith, lt)) in
      comes_after b.now w (ap (λ (x : Version Change). is_lt (stamp_cmp x b.now)) m.2 ∙ late)
      (of_all (λ (y : Version Change). same_names b.now y ≡ false) (all_now items) w (IsDistinct-head same_names b.now (all_now items) apart) there)

pub sorted_is : (versions : List (Version Change)) (lent sorted : List (Bor (Version Change))) → Descends Older versions → all_now lent ≡ versions → IsPermutation lent sorted → IsSortedBy (λ a b. is_lt (stamp_cmp a.now b.now)) sorted → AreByStamp versions (all_now sorted)
sorted_is versions lent sorted d is moved up =
    let same : IsPermutation versions (all_now sorted) = subst (λ (l : List (Version Change)). IsPermutation l (all_now sorted)) is (IsPermutation-map now_of lent sorted moved) in
    record {
      all = λ v there. members_kept v versions (all_now sorted) same there;
      only = λ v there. members_kept v (all_now sorted) versions (IsPermutation-sym versions (all_now sorted) same) there;
      rises = rises sorted (λ i j d le lt. sorted_far comes_first (ranks_by stamp_total now_of) sorted up i j d le lt) (IsDistinct-IsPermutation same_names flips versions (all_now sorted) same (distinct versions d));
    }

-- ---- one version more

pub records_step : (h : KeyHistory) (items : List (Bor (Version Change))) (i : ℕ) (b : Bor (Version Change)) → i < length items → b ≡ get_or items i b
    → records_of h (all_now (take (i + 1) items)) ≡ records_of h (all_now (take i items)) ++ record_of h.table h.key b.now ∷ []
records_step h items i b lt is =
    ap (λ (l : List (Bor (Version Change))). records_of h (all_now l)) (take_step items i b lt is)
    ∙ ap (records_of h) (map-append {A = Bor (Version Change)} (λ x. x.now) (take i items) (b ∷ []))
    ∙ map-append (record_of h.table h.key) (all_now (take i items)) (b.now ∷ [])

-- the version at a place behind those before it
pub next_now : (versions : List (Version Change)) (items : List (Bor (Version Change))) (place : ℕ) (b : Bor (Version Change)) → all_now items ≡ take place versions → Some b.now ≡ slice_get versions place → all_now (items ++ b ∷ []) ≡ take (place + 1) versions
next_now versions items place b before at =
    map-append {A = Bor (Version Change)} (λ x. x.now) items (b ∷ [])
    ∙ ap (λ (l : List (Version Change)). l ++ b.now ∷ []) before
    ∙ sym (take_step versions place b.now (slice_get_within versions place b.now (sym at)) (got versions place b.now (sym at))) where
      got : (xs : List (Version Change)) (i : ℕ) (x : Version Change) → slice_get xs i ≡ Some x → x ≡ get_or xs i x
      got [] i x e = absurd cc
      got (y ∷ xs) zero x e = sym (same_Some y x e)
      got (y ∷ xs) (suc i) x e = got xs i x e

-- there is a version at each place
pub none_past : (versions : List (Version Change)) (place : ℕ) → place < length versions → None ≡ slice_get versions place → ⊥
none_past [] place lt none = omega (arith, lt)
none_past (v ∷ versions) zero lt none = absurd cc
none_past (v ∷ versions) (suc place) lt none = none_past versions place (omega (arith, lt)) none
