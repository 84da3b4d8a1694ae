-- The nearest key above or below a bound, by the order of the slots.
use Rattle.std.proofs.Common.{◌≡◌, ℕ, zero, suc, ◌+◌, ◌-◌, ◌<◌, ◌≤◌, true, false, List, [], ◌∷◌, length, length-drop, get_or, drop, Option, Some, None, refl, sym, ap, subst, ◌∙◌, inl, inr, arith}
use Rattle.std.specs.List.{HoldsAt}
use Rattle.std.specs.List.Sorted.{IsPartitionPoint}
use Rattle.std.specs.Ordering.{nat_cmp, is_lt, ordering_index, ordering_reverse}
use Rattle.std.specs.Cmp.Lexicographic.{slice_cmp}
use Rattle.std.specs.declared.cmp.Ordering.{Ordering}
use Rattle.std.specs.declared.cmp.Ordering.TheVariants.{Less, Equal, Greater}
use Rattle.std.proofs.lemmas.Bool.{cases_lt, both_ways}
use Rattle.std.proofs.lemmas.Cmp.{nat_list_cmp_total, tied_itself}
use Rattle.std.proofs.lemmas.List.{get_or-drop}
use Rattle.std.proofs.lemmas.List.Elements.{at_from_Contains}
use Rattle.std.proofs.lemmas.Map.Lookups.{exact_bytes}
use Rattle.kv_model.specs.Rows.{Way, Up, Down, is_past, comes_after}
use Rattle.ordered_groups.specs.Groups.{entries}
use Rattle.ordered_groups.specs.Places.{Rises, PartsAt, IsPlace, rank}
use Rattle.ordered_groups.specs.declared.Place.{Place}
use Rattle.leaf_chains.specs.declared.slot.KeyChain.{KeyChain}
use Rattle.leaf_chains.specs.Slots.{key_at}
use Rattle.leaf_chains.specs.Nearest.{IsNearest, IsWayUp, NonePast}
use Rattle.leaf_chains.specs.Order.{IsIndex, key_order, not_above, not_below}
use Rattle.leaf_chains.proofs.Index.{rises, place_within}

-- ---- how keys compare with a bound

above_rises : (o p : Ordering) → ordering_index o ≤ ordering_index p → ordering_index (not_above o) ≤ ordering_index (not_above p)
above_rises Less p h = omega arith
above_rises Equal p h = omega arith
above_rises Greater Less h = absurd (omega (arith, h))
above_rises Greater Equal h = absurd (omega (arith, h))
above_rises Greater Greater h = omega arith

below_rises : (o p : Ordering) → ordering_index o ≤ ordering_index p → ordering_index (not_below o) ≤ ordering_index (not_below p)
below_rises Less p h = omega arith
below_rises Equal Less h = absurd (omega (arith, h))
below_rises Equal Equal h = omega arith
below_rises Equal Greater h = omega arith
below_rises Greater Less h = absurd (omega (arith, h))
below_rises Greater Equal h = absurd (omega (arith, h))
below_rises Greater Greater h = omega arith

pub rises_above : (slots : List KeyChain) (order : List ℕ) (key : List ℕ) → IsIndex slots order → Rises (λ i. not_above (key_order slots key i)) order
rises_above slots order key ix i j d le lt = above_rises (key_order slots key (get_or order i d)) (key_order slots key (get_or order j d)) (rises slots order key ix i j d le lt)

pub rises_below : (slots : List KeyChain) (order : List ℕ) (key : List ℕ) → IsIndex slots order → Rises (λ i. not_below (key_order slots key i)) order
rises_below slots order key ix i j d le lt = below_rises (key_order slots key (get_or order i d)) (key_order slots key (get_or order j d)) (rises slots order key ix i j d le lt)

-- ---- what its answers say of a key

pub past_up : (key k : List ℕ) → not_above (slice_cmp nat_cmp k key) ≡ Greater → is_past Up (Some key) k ≡ true
past_up key k h = by (slice_cmp nat_cmp k key) refl h where
  by : (o : Ordering) → slice_cmp nat_cmp k key ≡ o → not_above o ≡ Greater → is_past Up (Some key) k ≡ true
  by Less e g = absurd cc
  by Equal e g = absurd cc
  by Greater e g = ap is_lt (nat_list_cmp_total.antisymm key k ∙ ap ordering_reverse e)

pub not_past_up : (key k : List ℕ) → not_above (slice_cmp nat_cmp k key) ≡ Less → is_past Up (Some key) k ≡ false
not_past_up key k h = by (slice_cmp nat_cmp k key) refl h where
  by : (o : Ordering) → slice_cmp nat_cmp k key ≡ o → not_above o ≡ Less → is_past Up (Some key) k ≡ false
  by Less e g = ap is_lt (nat_list_cmp_total.antisymm key k ∙ ap ordering_reverse e)
  by Equal e g = ap is_lt (nat_list_cmp_total.antisymm key k ∙ ap ordering_reverse e)
  by Greater e g = absurd cc

pub past_down : (key k : List ℕ) → not_below (slice_cmp nat_cmp k key) ≡ Less → is_past Down (Some key) k ≡ true
past_down key k h = by (slice_cmp nat_cmp k key) refl h where
  by : (o : Ordering) → slice_cmp nat_cmp k key ≡ o → not_below o ≡ Less → is_past Down (Some key) k ≡ true
  by Less e g = ap is_lt e
  by Equal e g = absurd cc
  by Greater e g = absurd cc

pub not_past_down : (key k : List ℕ) → not_below (slice_cmp nat_cmp k key) ≡ Greater → is_past Down (Some key) k ≡ false
not_past_down key k h = by (slice_cmp nat_cmp k key) refl h where
  by : (o : Ordering) → slice_cmp nat_cmp k key ≡ o → not_below o ≡ Greater → is_past Down (Some key) k ≡ false
  by Less e g = absurd cc
  by Equal e g = ap is_lt e
  by Greater e g = ap is_lt e

-- ---- by where a key stands, or would

at_most_tied : (o : Ordering) → ordering_index o ≤ 1 → not_above o ≡ Less
at_most_tied Less h = refl
at_most_tied Equal h = refl
at_most_tied Greater h = absurd (omega (arith, h))

at_least_tied : (o : Ordering) → 1 ≤ ordering_index o → not_below o ≡ Greater
at_least_tied Less h = absurd (omega (arith, h))
at_least_tied Equal h = refl
at_least_tied Greater h = refl

-- the gap behind the key
pub parts_behind_key : (slots : List KeyChain) (order : List ℕ) (key : List ℕ) (r : ℕ) → IsIndex slots order → r < length order → HoldsAt (λ y. key_order slots key y ≡ Equal) order r → PartsAt (λ i. not_above (key_order slots key i)) order (r + 1)
parts_behind_key slots order key r ix lt here rising = (
  λ k d from to.
      let up = rises slots order key ix k r d (omega (arith, to)) lt in
      let tied = ap ordering_index (here d) in
      at_most_tied (key_order slots key (get_or order k d)) (omega (arith, up, tied)),
  λ k d from to.
      let same = exact_bytes (key_at slots (get_or order r d)) key (here d) in
      let less = subst (λ (x : List ℕ). slice_cmp nat_cmp x (key_at slots (get_or order k d)) ≡ Less) same (ix.ascends r k d (omega (arith, from)) to) in
      ap not_above (nat_list_cmp_total.antisymm (key_at slots (get_or order k d)) key ∙ ap ordering_reverse less),
)

-- the gap before the key
pub parts_before_key : (slots : List KeyChain) (order : List ℕ) (key : List ℕ) (r : ℕ) → IsIndex slots order → r < length order → HoldsAt (λ y. key_order slots key y ≡ Equal) order r → PartsAt (λ i. not_below (key_order slots key i)) order r
parts_before_key slots order key r ix lt here rising = (
  λ k d from to.
      let same = exact_bytes (key_at slots (get_or order r d)) key (here d) in
      ap not_below (subst (λ (x : List ℕ). slice_cmp nat_cmp (key_at slots (get_or order k d)) x ≡ Less) same (ix.ascends k r d to lt)),
  λ k d from to.
      let up = rises slots order key ix r k d from to in
      let tied = ap ordering_index (here d) in
      at_least_tied (key_order slots key (get_or order k d)) (omega (arith, up, tied)),
)

-- the gap where the key would go
pub parts_above_gap : (slots : List KeyChain) (order : List ℕ) (key : List ℕ) (n : ℕ) → IsPartitionPoint (λ y. key_order slots key y ≡ Less) (λ y. key_order slots key y ≡ Greater) order n → PartsAt (λ i. not_above (key_order slots key i)) order n
parts_above_gap slots order key n parts rising = (λ k d from to. ap not_above (parts.0 k d from to), λ k d from to. ap not_above (parts.1 k d from to))

pub parts_below_gap : (slots : List KeyChain) (order : List ℕ) (key : List ℕ) (n : ℕ) → IsPartitionPoint (λ y. key_order slots key y ≡ Less) (λ y. key_order slots key y ≡ Greater) order n → PartsAt (λ i. not_below (key_order slots key i)) order n
parts_below_gap slots order key n parts rising = (λ k d from to. ap not_below (parts.0 k d from to), λ k d from to. ap not_below (parts.1 k d from to))

-- ---- the nearest

key_read : (slots : List KeyChain) (i : ℕ) (d : KeyChain) → i < length slots → key_at slots i ≡ (get_or slots i d).key
key_read [] i d lt = absurd (omega (arith, lt))
key_read (s ∷ slots) zero d lt = refl
key_read (s ∷ slots) (suc i) d lt = key_read slots i d (omega (arith, lt))

-- no entry's key is past
pub none_past : (way : Way) (from : Option (List ℕ)) (slots : List KeyChain) (order : List ℕ) → IsIndex slots order → ((k : ℕ) → k < length order → is_past way from (key_at slots (get_or order k 0)) ≡ false) → NonePast way from slots
none_past way from slots order ix never i d lt =
    let a = at_from_Contains order i (ix.whole i lt) in
    subst (λ (k : List ℕ). is_past way from k ≡ false) (ap (key_at slots) (a.2 0) ∙ key_read slots i d lt) (never a.0 a.1)

not_after_itself : (way : Way) (a : List ℕ) → comes_after way a a ≡ false
not_after_itself Up a = ap is_lt (tied_itself nat_list_cmp_total a)
not_after_itself Down a = ap is_lt (tied_itself nat_list_cmp_total a)

back : (a b : List ℕ) → slice_cmp nat_cmp a b ≡ Less → is_lt (slice_cmp nat_cmp b a) ≡ false
back a b e = ap is_lt (nat_list_cmp_total.antisymm b a ∙ ap ordering_reverse e)

-- among the entries' keys, those that are past do not come before that of the entry at r
pub near : (way : Way) (from : Option (List ℕ)) (slots : List KeyChain) (order : List ℕ) (r e : ℕ) → IsIndex slots order → r < length order → HoldsAt (λ y. e ≡ y) order r → is_past way from (key_at slots e) ≡ true
    → ((k : ℕ) → k < length order → is_past way from (key_at slots (get_or order k 0)) ≡ true → comes_after way (key_at slots (get_or order k 0)) (key_at slots (get_or order r 0)) ≡ false)
    → IsNearest way from slots e
near way from slots order r e ix lt is past never = record {
  is_slot = subst (λ (k : ℕ). k < length slots) (sym (is 0)) (ix.within r 0 lt);
  past = past;
  nearest = λ i d within.
      let a = at_from_Contains order i (ix.whole i within) in
      let same = ap (key_at slots) (a.2 0) ∙ key_read slots i d within in
      subst (λ (k : List ℕ). is_past way from k ≡ true → comes_after way k (key_at slots e) ≡ false) same
      (subst (λ (k : ℕ). is_past way from (key_at slots (get_or order a.0 0)) ≡ true → comes_after way (key_at slots (get_or order a.0 0)) (key_at slots k) ≡ false) (sym (is 0)) (never a.0 a.1));
}

-- on the way up: none of the entries before it is past
pub near_up : (from : Option (List ℕ)) (slots : List KeyChain) (order : List ℕ) (r e : ℕ) → IsIndex slots order → r < length order → HoldsAt (λ y. e ≡ y) order r → is_past Up from (key_at slots e) ≡ true → ((k : ℕ) → k < r → is_past Up from (key_at slots (get_or order k 0)) ≡ false) → IsNearest Up from slots e
near_up from slots order r e ix lt is past never = near Up from slots order r e ix lt is past (λ k within yes. elim (cases_lt k r) [
  | inl b ↦ absurd (both_ways (is_past Up from (key_at slots (get_or order k 0))) (never k b) yes)
  | inr g ↦ elim (cases_lt r k) [
    | inl a ↦ back (key_at slots (get_or order r 0)) (key_at slots (get_or order k 0)) (ix.ascends r k 0 a within)
    | inr h ↦
        let same : r ≡ k = omega (arith, g, h) in
        subst (λ (n : ℕ). comes_after Up (key_at slots (get_or order n 0)) (key_at slots (get_or order r 0)) ≡ false) same (not_after_itself Up (key_at slots (get_or order r 0)))
  ]
])

-- on the way down: none of the entries behind it is past
pub near_down : (from : Option (List ℕ)) (slots : List KeyChain) (order : List ℕ) (r e : ℕ) → IsIndex slots order → r < length order → HoldsAt (λ y. e ≡ y) order r → is_past Down from (key_at slots e) ≡ true → ((k : ℕ) → r < k → k < length order → is_past Down from (key_at slots (get_or order k 0)) ≡ false) → IsNearest Down from slots e
near_down from slots order r e ix lt is past never = near Down from slots order r e ix lt is past (λ k within yes. elim (cases_lt r k) [
  | inl a ↦ absurd (both_ways (is_past Down from (key_at slots (get_or order k 0))) (never k a within) yes)
  | inr g ↦ elim (cases_lt k r) [
    | inl b ↦ back (key_at slots (get_or order k 0)) (key_at slots (get_or order r 0)) (ix.ascends k r 0 b lt)
    | inr h ↦
        let same : r ≡ k = omega (arith, g, h) in
        subst (λ (n : ℕ). comes_after Down (key_at slots (get_or order n 0)) (key_at slots (get_or order r 0)) ≡ false) same (not_after_itself Down (key_at slots (get_or order r 0)))
  ]
])

-- ---- by the gap that a search finds

pub above_found : (slots : List KeyChain) (gs : List (List ℕ)) (key : List ℕ) (gap p : Place) (e : ℕ) → IsIndex slots (entries gs) → PartsAt (λ i. not_above (key_order slots key i)) (entries gs) (rank gs gap) → IsPlace gs p → rank gs p ≡ rank gs gap → HoldsAt (λ y. e ≡ y) (entries gs) (rank gs p) → IsNearest Up (Some key) slots e
above_found slots gs key gap p e ix splits here same is =
    let order = entries gs in
    let parts = splits (rises_above slots order key ix) in
    let within = place_within gs p here in
    let above = subst (λ (k : ℕ). not_above (key_order slots key k) ≡ Greater) (sym (is 0)) (parts.1 (rank gs p) 0 (omega (arith, same)) within) in
    near_up (Some key) slots order (rank gs p) e ix within is (past_up key (key_at slots e) above) (λ k lt. not_past_up key (key_at slots (get_or order k 0)) (parts.0 k 0 (omega arith) (omega (arith, lt, same))))

pub above_none : (slots : List KeyChain) (gs : List (List ℕ)) (key : List ℕ) (gap : Place) → IsIndex slots (entries gs) → PartsAt (λ i. not_above (key_order slots key i)) (entries gs) (rank gs gap) → rank gs gap ≡ length (entries gs) → NonePast Up (Some key) slots
above_none slots gs key gap ix splits end =
    let order = entries gs in
    let parts = splits (rises_above slots order key ix) in
    none_past Up (Some key) slots order ix (λ k lt. not_past_up key (key_at slots (get_or order k 0)) (parts.0 k 0 (omega arith) (omega (arith, lt, end))))

pub below_found : (slots : List KeyChain) (gs : List (List ℕ)) (key : List ℕ) (gap p : Place) (e : ℕ) → IsIndex slots (entries gs) → PartsAt (λ i. not_below (key_order slots key i)) (entries gs) (rank gs gap) → IsPlace gs p → rank gs p + 1 ≡ rank gs gap → HoldsAt (λ y. e ≡ y) (entries gs) (rank gs p) → IsNearest Down (Some key) slots e
below_found slots gs key gap p e ix splits here same is =
    let order = entries gs in
    let parts = splits (rises_below slots order key ix) in
    let within = place_within gs p here in
    let below = subst (λ (k : ℕ). not_below (key_order slots key k) ≡ Less) (sym (is 0)) (parts.0 (rank gs p) 0 (omega arith) (omega (arith, same))) in
    near_down (Some key) slots order (rank gs p) e ix within is (past_down key (key_at slots e) below) (λ k lt last. not_past_down key (key_at slots (get_or order k 0)) (parts.1 k 0 (omega (arith, lt, same)) last))

pub below_none : (slots : List KeyChain) (gs : List (List ℕ)) (key : List ℕ) (gap : Place) → IsIndex slots (entries gs) → PartsAt (λ i. not_below (key_order slots key i)) (entries gs) (rank gs gap) → rank gs gap ≡ 0 → NonePast Down (Some key) slots
below_none slots gs key gap ix splits start =
    let order = entries gs in
    let parts = splits (rises_below slots order key ix) in
    none_past Down (Some key) slots order ix (λ k lt. not_past_down key (key_at slots (get_or order k 0)) (parts.1 k 0 (omega (arith, start)) lt))

pub least_found : (slots : List KeyChain) (gs : List (List ℕ)) (p : Place) (e : ℕ) → IsIndex slots (entries gs) → IsPlace gs p → rank gs p ≡ 0 → HoldsAt (λ y. e ≡ y) (entries gs) (rank gs p) → IsNearest Up None slots e
least_found slots gs p e ix here first is = near_up None slots (entries gs) (rank gs p) e ix (place_within gs p here) is refl (λ k lt. absurd (omega (arith, lt, first)))

pub greatest_found : (slots : List KeyChain) (gs : List (List ℕ)) (p : Place) (e : ℕ) → IsIndex slots (entries gs) → IsPlace gs p → rank gs p + 1 ≡ length (entries gs) → HoldsAt (λ y. e ≡ y) (entries gs) (rank gs p) → IsNearest Down None slots e
greatest_found slots gs p e ix here last is = near_down None slots (entries gs) (rank gs p) e ix (place_within gs p here) is refl (λ k lt within. absurd (omega (arith, lt, within, last)))

-- ---- a walk from a gap on

pub way_up : (from : Option (List ℕ)) (slots : List KeyChain) (order : List ℕ) (r : ℕ) → IsIndex slots order → ((k : ℕ) → k < r → k < length order → is_past Up from (key_at slots (get_or order k 0)) ≡ false) → ((k d : ℕ) → r ≤ k → k < length order → is_past Up from (key_at slots (get_or order k d)) ≡ true) → IsWayUp from slots (drop r order)
way_up from slots order r ix never always =
    let left = length-drop r order in
    record {
      within = λ k d lt. rw (get_or-drop r order k d) (ix.within (r + k) d (omega (arith, lt, left)));
      past = λ k d lt. rw (get_or-drop r order k d) (always (r + k) d (omega arith) (omega (arith, lt, left)));
      ascends = λ a b d lt within. rw (get_or-drop r order a d, get_or-drop r order b d) (ap is_lt (ix.ascends (r + a) (r + b) d (omega (arith, lt)) (omega (arith, within, left))));
      whole = λ i lt yes.
          let a = at_from_Contains order i (ix.whole i lt) in
          elim (cases_lt a.0 r) [
            | inl b ↦ absurd (both_ways (is_past Up from (key_at slots (get_or order a.0 0))) (never a.0 b a.1) (ap (λ (k : ℕ). is_past Up from (key_at slots k)) (a.2 0) ∙ yes))
            | inr g ↦
                let there : r + (a.0 - r) ≡ a.0 = omega (arith, g) in
                (a.0 - r, omega (arith, g, a.1, left), get_or-drop r order (a.0 - r) i ∙ (ap (λ (k : ℕ). get_or order k i) there ∙ a.2 i))
          ];
    }

pub way_above : (slots : List KeyChain) (gs : List (List ℕ)) (key : List ℕ) (gap : Place) → IsIndex slots (entries gs) → PartsAt (λ i. not_above (key_order slots key i)) (entries gs) (rank gs gap) → IsWayUp (Some key) slots (drop (rank gs gap) (entries gs))
way_above slots gs key gap ix splits =
    let order = entries gs in
    let parts = splits (rises_above slots order key ix) in
    way_up (Some key) slots order (rank gs gap) ix
    (λ k lt within. not_past_up key (key_at slots (get_or order k 0)) (parts.0 k 0 (omega arith) lt))
    (λ k d from within. past_up key (key_at slots (get_or order k d)) (parts.1 k d from within))

pub way_of_all : (slots : List KeyChain) (gs : List (List ℕ)) (gap : Place) → IsIndex slots (entries gs) → rank gs gap ≡ 0 → IsWayUp None slots (drop (rank gs gap) (entries gs))
way_of_all slots gs gap ix start = way_up None slots (entries gs) (rank gs gap) ix (λ k lt within. absurd (omega (arith, lt, start))) (λ k d from within. refl)
