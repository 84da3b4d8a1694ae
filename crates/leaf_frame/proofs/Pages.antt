-- Rows of a page by key.
use Rattle.std.proofs.Common.{◌≡◌, ◌∙◌, ℕ, zero, suc, ◌+◌, ◌≤◌, true, false, IsTrue, List, [], ◌∷◌, length, take, drop, map, Option, Some, None, refl, sym, ap, subst, inl, inr, arith}
use Rattle.std.specs.Prelude.{MatchOption, bytes_eq, slice_get, option_map}
use Rattle.std.specs.List.{AllByRecursion}
use Rattle.std.proofs.lemmas.Bool.{both_ways, cases_Bool}
use Rattle.std.proofs.lemmas.List.{take_all}
use Rattle.std.proofs.lemmas.Option.{same_Some, slice_get_within, get_or_from_slice_get}
use Rattle.kv_model.specs.Holds.{Member}
use Rattle.kv_model.specs.Rows.{Way, Up, Down, is_past}
use Rattle.row_page.specs.declared.cell.Cell.{Cell}
use Rattle.row_page.specs.Changes.{version_in}
use Rattle.row_page.specs.Rows.{Row, is_below, Ascends}
use Rattle.row_page.specs.Views.{HasKeyAt, Splits, row_seen}
use Rattle.row_page.proofs.Ascending.{above_at, all_above, below_differs, below_self, below_trans}
use Rattle.leaf_rows.specs.Rows.{version_at}
use Rattle.reconcile.specs.Shows.{shown_at}
use Rattle.reconcile.proofs.Keyed.{key_self, none_above, same_key}
use Rattle.leaf_frame.specs.declared.page.RowAt.{RowAt}
use Rattle.leaf_frame.specs.Near.{IsNearRow, IsPlaceAbove, IsPlaceBelow, NoRowPast}
use Rattle.leaf_frame.specs.Walks.{IsRowAt}

-- ---- the order of keys

pub not_below : (x y : List ℕ) → is_below x y ≡ true → is_below y x ≡ false
not_below x y p = elim (cases_Bool (is_below y x)) [
  | inl q ↦ absurd (below_self x (below_trans x y x p q))
  | inr isnt ↦ isnt
]

not_itself : (x : List ℕ) → is_below x x ≡ false
not_itself x = elim (cases_Bool (is_below x x)) [ inl is ↦ absurd (below_self x is) | inr isnt ↦ isnt ]

pub each : (P Q : Row → Type 0) → ((r : Row) → P r → Q r) → (rows : List Row) → AllByRecursion P rows → AllByRecursion Q rows
each P Q to [] all = tt
each P Q to (r ∷ rows) all = (to r all.0, each P Q to rows all.1)

row_above : (k : List ℕ) (rows : List Row) (i : ℕ) (r : Row) → Ascends (Some k) rows → slice_get rows i ≡ Some r → is_below k r.0 ≡ true
row_above k rows i r up is = above_at k rows i r up (slice_get_within rows i r is) (sym (get_or_from_slice_get rows i r r is))

pub row_member : (rows : List Row) (i : ℕ) (r : Row) → slice_get rows i ≡ Some r → Member r.0 (map {A = Row} (λ q. q.0) rows)
row_member [] i r is = absurd cc
row_member (x ∷ rows) zero r is = inl (ap (λ (q : Row). q.0) (sym (same_Some x r is)))
row_member (x ∷ rows) (suc i) r is = inr (row_member rows i r is)

at_place : (P : Row → Type 0) (rows : List Row) (i : ℕ) (r : Row) → slice_get rows i ≡ Some r → AllByRecursion P (drop i rows) → P r
at_place P [] i r is all = absurd cc
at_place P (x ∷ rows) zero r is all = subst P (same_Some x r is) all.0
at_place P (x ∷ rows) (suc i) r is all = at_place P rows i r is all

before_place : (P : Row → Type 0) (rows : List Row) (i : ℕ) (r : Row) → slice_get rows i ≡ Some r → AllByRecursion P (take (suc i) rows) → P r
before_place P [] i r is all = absurd cc
before_place P (x ∷ rows) zero r is all = subst P (same_Some x r is) all.0
before_place P (x ∷ rows) (suc i) r is all = before_place P rows i r is all.1

-- ---- look-ups

found_at : (before : Option (List ℕ)) (rows : List Row) (i : ℕ) (r : Row) → Ascends before rows → slice_get rows i ≡ Some r → version_at r.0 rows ≡ Some r.1
found_at before [] i r up is = absurd cc
found_at before (x ∷ rows) zero r up is = subst (λ (q : Row). version_at q.0 (x ∷ rows) ≡ Some q.1) (same_Some x r is) (let t = key_self x.0 in rw t refl)
found_at before (x ∷ rows) (suc i) r up is =
    let f = below_differs x.0 r.0 (row_above x.0 rows i r up.1 is) in
    rw f (found_at (Some x.0) rows i r up.1 is)

-- the row at a place is that of its key
pub shows_row : (rows : List Row) (i : ℕ) (r : Row) → Ascends None rows → slice_get rows i ≡ Some r → shown_at r.0 rows ≡ Some (version_in r.1)
shows_row rows i r up is = ap (option_map version_in) (found_at None rows i r up is)

pub shows_at : (rows : List Row) (key : List ℕ) (i : ℕ) (r : Row) → Ascends None rows → HasKeyAt rows key i → slice_get rows i ≡ Some r → Some (version_in r.1) ≡ shown_at key rows
shows_at rows key i r up has is =
    let same : r.0 ≡ key = ap (λ (q : Row). q.0) (same_Some r has.0 (sym is ∙ has.1)) ∙ has.2 in
    subst (λ (k : List ℕ). Some (version_in r.1) ≡ shown_at k rows) same (sym (shows_row rows i r up is))

none_in : (rows : List Row) (key : List ℕ) (i : ℕ) → AllByRecursion (λ (r : Row). IsTrue (is_below r.0 key)) (take i rows) → AllByRecursion (λ (r : Row). IsTrue (is_below key r.0)) (drop i rows) → version_at key rows ≡ None
none_in [] key i below above = refl
none_in (x ∷ rows) key zero below above = none_above key (x ∷ rows) above
none_in (x ∷ rows) key (suc i) below above =
    let f = below_differs x.0 key below.0 in
    rw f (none_in rows key i below.1 above)

pub shows_none : (rows : List Row) (key : List ℕ) (i : ℕ) → Splits rows key i → None ≡ shown_at key rows
shows_none rows key i splits = ap (option_map version_in) (sym (none_in rows key i splits.below splits.above))

-- ---- places

above_itself : (before : Option (List ℕ)) (rows : List Row) (i : ℕ) (r : Row) → Ascends before rows → slice_get rows i ≡ Some r
    → AllByRecursion (λ (q : Row). is_below r.0 q.0 ≡ false) (take (suc i) rows) × AllByRecursion (λ (q : Row). is_below r.0 q.0 ≡ true) (drop (suc i) rows)
above_itself before [] i r up is = absurd cc
above_itself before (x ∷ rows) zero r up is = subst
    (λ (q : Row). AllByRecursion (λ (y : Row). is_below q.0 y.0 ≡ false) (x ∷ []) × AllByRecursion (λ (y : Row). is_below q.0 y.0 ≡ true) rows)
    (same_Some x r is) ((not_itself x.0, tt), all_above x.0 rows up.1)
above_itself before (x ∷ rows) (suc i) r up is =
    let rest = above_itself (Some x.0) rows i r up.1 is in
    ((not_below x.0 r.0 (row_above x.0 rows i r up.1 is), rest.0), rest.1)

below_itself : (before : Option (List ℕ)) (rows : List Row) (i : ℕ) (r : Row) → Ascends before rows → slice_get rows i ≡ Some r
    → AllByRecursion (λ (q : Row). is_below q.0 r.0 ≡ true) (take i rows) × AllByRecursion (λ (q : Row). is_below q.0 r.0 ≡ false) (drop i rows)
below_itself before [] i r up is = absurd cc
below_itself before (x ∷ rows) zero r up is = subst
    (λ (q : Row). Unit {0} × AllByRecursion (λ (y : Row). is_below y.0 q.0 ≡ false) (x ∷ rows))
    (same_Some x r is) (tt, (not_itself x.0, each (λ q. is_below x.0 q.0 ≡ true) (λ q. is_below q.0 x.0 ≡ false) (λ q p. not_below x.0 q.0 p) rows (all_above x.0 rows up.1)))
below_itself before (x ∷ rows) (suc i) r up is =
    let rest = below_itself (Some x.0) rows i r up.1 is in
    ((row_above x.0 rows i r up.1 is, rest.0), rest.1)

abbrev KeyRow : List Row → List ℕ → ℕ → Type 0
KeyRow rows key i = (r : Row) × (slice_get rows i ≡ Some r) × (r.0 ≡ key)

one_more : (i : ℕ) → suc i ≡ i + 1
one_more i = omega arith

pub place_above_row : (rows : List Row) (key : List ℕ) (i : ℕ) → Ascends None rows → HasKeyAt rows key i → IsPlaceAbove (Some key) rows (i + 1)
place_above_row rows key i up has =
    let parts = above_itself None rows i has.0 up has.1 in
    let lt = slice_get_within rows i has.0 has.1 in
    let is : IsPlaceAbove (Some has.0.0) rows (suc i) = record { within = omega (arith, lt); below = parts.0; above = parts.1 } in
    subst (λ (k : List ℕ). IsPlaceAbove (Some k) rows (i + 1)) has.2 (subst (λ (n : ℕ). IsPlaceAbove (Some has.0.0) rows n) (one_more i) is)

pub place_above_gap : (rows : List Row) (key : List ℕ) (i : ℕ) → Splits rows key i → IsPlaceAbove (Some key) rows i
place_above_gap rows key i splits = record {
  within = splits.within;
  below = each (λ r. IsTrue (is_below r.0 key)) (λ r. is_below key r.0 ≡ false) (λ r p. not_below r.0 key p) (take i rows) splits.below;
  above = splits.above;
}

all_past : (way : Way) (rows : List Row) → AllByRecursion (λ (r : Row). is_past way None r.0 ≡ true) rows
all_past way [] = tt
all_past way (r ∷ rows) = (refl, all_past way rows)

pub place_of_all : (rows : List Row) → IsPlaceAbove None rows 0
place_of_all rows = record { within = omega arith; below = tt; above = all_past Up rows }

pub place_below_row : (rows : List Row) (key : List ℕ) (i : ℕ) → Ascends None rows → HasKeyAt rows key i → IsPlaceBelow (Some key) rows i
place_below_row rows key i up has =
    let parts = below_itself None rows i has.0 up has.1 in
    let lt = slice_get_within rows i has.0 has.1 in
    let is : IsPlaceBelow (Some has.0.0) rows i = record { within = omega (arith, lt); below = parts.0; above = parts.1 } in
    subst (λ (k : List ℕ). IsPlaceBelow (Some k) rows i) has.2 is

pub place_below_gap : (rows : List Row) (key : List ℕ) (i : ℕ) → Splits rows key i → IsPlaceBelow (Some key) rows i
place_below_gap rows key i splits = record {
  within = splits.within;
  below = splits.below;
  above = each (λ r. IsTrue (is_below key r.0)) (λ r. is_below r.0 key ≡ false) (λ r p. not_below key r.0 p) (drop i rows) splits.above;
}

-- ---- the nearest row

apart : (way : Way) (from : Option (List ℕ)) (x k : List ℕ) → is_past way from x ≡ false → is_past way from k ≡ true → bytes_eq x k ≡ false
apart way from x k isnt is = elim (cases_Bool (bytes_eq x k)) [
  | inl same ↦ absurd (both_ways (is_past way from k) (subst (λ (y : List ℕ). is_past way from y ≡ false) (same_key x k same) isnt) is)
  | inr other ↦ other
]

-- a key that is past is none of these, which are not
none_of : (way : Way) (from : Option (List ℕ)) (k : List ℕ) (rows : List Row) → AllByRecursion (λ (r : Row). is_past way from r.0 ≡ false) rows → is_past way from k ≡ true → version_at k rows ≡ None
none_of way from k [] all past = refl
none_of way from k (x ∷ rows) all past =
    let f = apart way from x.0 k all.0 past in
    rw f (none_of way from k rows all.1 past)

gap_up : (from : Option (List ℕ)) (k : List ℕ) (before : Option (List ℕ)) (rows : List Row) (i : ℕ) (r : Row) → Ascends before rows → slice_get rows i ≡ Some r → AllByRecursion (λ (q : Row). is_past Up from q.0 ≡ false) (take i rows)
    → is_past Up from k ≡ true → is_below k r.0 ≡ true → version_at k rows ≡ None
gap_up from k before [] i r up is all past below = absurd cc
gap_up from k before (x ∷ rows) zero r up is all past below =
    let under : is_below k x.0 ≡ true = subst (λ (q : Row). is_below k q.0 ≡ true) (sym (same_Some x r is)) below in
    none_above k (x ∷ rows) (under, each (λ q. is_below x.0 q.0 ≡ true) (λ q. is_below k q.0 ≡ true) (λ q p. below_trans k x.0 q.0 under p) rows (all_above x.0 rows up.1))
gap_up from k before (x ∷ rows) (suc i) r up is all past below =
    let f = apart Up from x.0 k all.0 past in
    rw f (gap_up from k (Some x.0) rows i r up.1 is all.1 past below)

gap_down : (from : Option (List ℕ)) (k : List ℕ) (before : Option (List ℕ)) (rows : List Row) (i : ℕ) (r : Row) → Ascends before rows → slice_get rows i ≡ Some r → AllByRecursion (λ (q : Row). is_past Down from q.0 ≡ false) (drop (suc i) rows)
    → is_past Down from k ≡ true → is_below r.0 k ≡ true → version_at k rows ≡ None
gap_down from k before [] i r up is all past below = absurd cc
gap_down from k before (x ∷ rows) zero r up is all past below =
    let f = below_differs x.0 k (subst (λ (q : Row). is_below q.0 k ≡ true) (sym (same_Some x r is)) below) in
    rw f (none_of Down from k rows all past)
gap_down from k before (x ∷ rows) (suc i) r up is all past below =
    let f = below_differs x.0 k (below_trans x.0 r.0 k (row_above x.0 rows i r up.1 is) below) in
    rw f (gap_down from k (Some x.0) rows i r up.1 is all past below)

near_up : (from : Option (List ℕ)) (rows : List Row) (i : ℕ) (c : Cell) → Ascends None rows → IsPlaceAbove from rows i → slice_get rows i ≡ Some (row_seen c) → IsNearRow Up from rows c
near_up from rows i c up place is = record {
  past = at_place (λ r. is_past Up from r.0 ≡ true) rows i (row_seen c) is place.above;
  known = row_member rows i (row_seen c) is;
  row = shows_row rows i (row_seen c) up is;
  before = λ k past below. ap (option_map version_in) (gap_up from k None rows i (row_seen c) up is place.below past below);
}

none_up : (from : Option (List ℕ)) (rows : List Row) (i : ℕ) → IsPlaceAbove from rows i → length rows ≤ i → NoRowPast Up from rows
none_up from rows i place end k past =
    ap (option_map version_in) (none_of Up from k rows (subst (λ (l : List Row). AllByRecursion (λ (r : Row). is_past Up from r.0 ≡ false) l) (take_all i rows end) place.below) past)

near_down : (from : Option (List ℕ)) (rows : List Row) (i j : ℕ) (c : Cell) → Ascends None rows → IsPlaceBelow from rows i → i ≡ suc j → slice_get rows j ≡ Some (row_seen c) → IsNearRow Down from rows c
near_down from rows i j c up place next is =
    let at : IsPlaceBelow from rows (suc j) = subst (λ (n : ℕ). IsPlaceBelow from rows n) next place in
    record {
      past = before_place (λ r. is_past Down from r.0 ≡ true) rows j (row_seen c) is at.below;
      known = row_member rows j (row_seen c) is;
      row = shows_row rows j (row_seen c) up is;
      before = λ k past below. ap (option_map version_in) (gap_down from k None rows j (row_seen c) up is at.above past below);
    }

none_down : (from : Option (List ℕ)) (rows : List Row) (i : ℕ) → IsPlaceBelow from rows i → i ≡ 0 → NoRowPast Down from rows
none_down from rows i place start k past =
    ap (option_map version_in) (none_of Down from k rows (subst (λ (n : ℕ). AllByRecursion (λ (r : Row). is_past Down from r.0 ≡ false) (drop n rows)) start place.above) past)

-- ---- the row at a place

pub up_at : (from : Option (List ℕ)) (rows : List Row) (i : ℕ) (o : Option RowAt) → Ascends None rows → IsPlaceAbove from rows i → MatchOption o (length rows ≤ i) (λ r. (r.index ≡ i) × (slice_get rows i ≡ Some (row_seen r.cell)))
    → MatchOption o (NoRowPast Up from rows) (IsRowAt Up from rows)
up_at from rows i None up place end = none_up from rows i place end
up_at from rows i (Some r) up place is = record { near = near_up from rows i r.cell up place is.1; place = subst (λ (n : ℕ). slice_get rows n ≡ Some (row_seen r.cell)) (sym is.0) is.1 }

pub down_at : (from : Option (List ℕ)) (rows : List Row) (end : ℕ) (o : Option RowAt) → Ascends None rows → IsPlaceBelow from rows end → MatchOption o (end ≡ 0) (λ r. (end ≡ suc r.index) × (slice_get rows r.index ≡ Some (row_seen r.cell)))
    → MatchOption o (NoRowPast Down from rows) (IsRowAt Down from rows)
down_at from rows end None up place start = none_down from rows end place start
down_at from rows end (Some r) up place is = record { near = near_down from rows end r.index r.cell up place is.0 is.1; place = is.1 }

-- behind a row of this key

pub behind_up : (rows : List Row) (c : Cell) (i : ℕ) (o : Option RowAt) → Ascends None rows → slice_get rows i ≡ Some (row_seen c) → MatchOption o (length rows ≤ i + 1) (λ r. (r.index ≡ i + 1) × (slice_get rows (i + 1) ≡ Some (row_seen r.cell)))
    → MatchOption o (NoRowPast Up (Some c.key.now) rows) (IsRowAt Up (Some c.key.now) rows)
behind_up rows c i o up here next = up_at (Some c.key.now) rows (i + 1) o up (place_above_row rows c.key.now i up (row_seen c, here, refl)) next

pub behind_down : (rows : List Row) (c : Cell) (i : ℕ) (o : Option RowAt) → Ascends None rows → slice_get rows i ≡ Some (row_seen c) → MatchOption o (i ≡ 0) (λ r. (i ≡ suc r.index) × (slice_get rows r.index ≡ Some (row_seen r.cell)))
    → MatchOption o (NoRowPast Down (Some c.key.now) rows) (IsRowAt Down (Some c.key.now) rows)
behind_down rows c i o up here next = down_at (Some c.key.now) rows i o up (place_below_row rows c.key.now i up (row_seen c, here, refl)) next
