-- Keys of rows, in order.
use Rattle.std.proofs.Common.{◌≡◌, ℕ, zero, suc, ◌+◌, ◌-◌, ◌<◌, Bool, true, false, IsTrue, List, [], ◌∷◌, ◌++◌, length, drop, get_or, Option, Some, None, refl, sym, ◌∙◌, ap, subst, inl, inr, arith}
use Rattle.std.specs.Prelude.{not, bytes_eq}
use Rattle.std.specs.List.{AllByRecursion, slice_get}
use Rattle.std.proofs.lemmas.Bool.{cases_Bool, not-true, not_from_false, both_ways}
use Rattle.std.proofs.lemmas.List.{append-nil, append_assoc, at_drop_more}
use Rattle.std.proofs.lemmas.Slice.Eq.{bytes_eq-Decides}
use Rattle.row_page.specs.Rows.{Row, RowFits, key_most, is_below, comes_after, Ascends}
use Rattle.row_page.proofs.Ascending.{below_trans, keys_part, all_above}
use Rattle.leaf_rows.specs.Rows.{AreFit, IsAboveLast}
use Rattle.stored.specs.TableTree.{Entry, Climbs, first_key}
use Rattle.recover_open.specs.Leaves.{IsFrom, IsUpTo, AreUnder}

-- what is not below a key is above what is below it
pub above_by : (x k y : List ℕ) → is_below x k ≡ true → is_below y k ≡ false → is_below x y ≡ true
above_by x k y below isnt = elim (cases_Bool (bytes_eq y k)) [
  | inl same ↦ subst (λ (z : List ℕ). is_below x z ≡ true) (sym ((bytes_eq-Decides y k).0 same)) below
  | inr other ↦ below_trans x k y below (keys_part y k isnt other)
]

-- what is above what is not below a key is not below it either
pub still_from : (least x y : List ℕ) → is_below x least ≡ false → is_below x y ≡ true → is_below y least ≡ false
still_from least x y isnt above = elim (cases_Bool (is_below y least)) [
  | inl is ↦ absurd (both_ways (is_below x least) isnt (below_trans x y least above is))
  | inr isnot ↦ isnot
]

-- ---- the first and the last key

from_above : (least first : List ℕ) (rows : List Row) → is_below first least ≡ false → AllByRecursion (λ (r : Row). is_below first r.0 ≡ true) rows → IsFrom least rows
from_above least first [] isnt all = tt
from_above least first (r ∷ rows) isnt all = (not_from_false (is_below r.0 least) (still_from least first r.0 isnt all.0), from_above least first rows isnt all.1)

-- the first key tells whether none is below another
pub first_tells : (least key : List ℕ) (rows : List Row) (first : Row) (b : Bool) → Ascends None rows → Some first ≡ slice_get rows 0 → key ≡ first.0 → b ≡ not (is_below key least) → (IsTrue b → IsFrom least rows) × (IsFrom least rows → IsTrue b)
first_tells least key [] first b ascend is same told = let none : ⊥ = cc in absurd none
first_tells least key (r ∷ rows) first b ascend is same told =
    let one : first ≡ r = cc in
    let tells : b ≡ not (is_below r.0 least) = told ∙ ap (λ (k : List ℕ). not (is_below k least)) (same ∙ ap (λ (x : Row). x.0) one) in (
      λ yes. let isnt : is_below r.0 least ≡ false = not-true (is_below r.0 least) (sym tells ∙ yes) in (sym tells ∙ yes, from_above least r.0 rows isnt (all_above r.0 rows ascend.1)),
      λ all. tells ∙ all.0,
    )

-- the key of the last row
abbrev last_key : List Row → Option (List ℕ)
last_key [] = None
last_key (r ∷ []) = Some r.0
last_key (r ∷ q ∷ rows) = last_key (q ∷ rows)

last_at : (rows : List Row) (end : Row) (n : ℕ) → length rows ≡ suc n → Some end ≡ slice_get rows n → last_key rows ≡ Some end.0
last_at [] end n long is = cc
last_at (r ∷ []) end zero long is = let same : end ≡ r = cc in ap (λ (x : Row). Some x.0) (sym same)
last_at (r ∷ []) end (suc n) long is = cc
last_at (r ∷ q ∷ rows) end zero long is = absurd (omega (arith, long))
last_at (r ∷ q ∷ rows) end (suc n) long is = last_at (q ∷ rows) end n (omega (arith, long)) is

up_to_last : (next key : List ℕ) (before : Option (List ℕ)) (rows : List Row) → Ascends before rows → last_key rows ≡ Some key → is_below key next ≡ true → IsUpTo (Some next) rows
up_to_last next key before [] ascend is below = tt
up_to_last next key before (r ∷ []) ascend is below = let same : r.0 ≡ key = cc in (ap (λ (k : List ℕ). is_below k next) same ∙ below, tt)
up_to_last next key before (r ∷ q ∷ rows) ascend is below =
    let rest : IsUpTo (Some next) (q ∷ rows) = up_to_last next key (Some r.0) (q ∷ rows) ascend.1 is below in
    (below_trans r.0 q.0 next ascend.1.0 rest.0, rest)

last_up_to : (next key : List ℕ) (rows : List Row) → IsUpTo (Some next) rows → last_key rows ≡ Some key → is_below key next ≡ true
last_up_to next key [] all is = cc
last_up_to next key (r ∷ []) all is = let same : r.0 ≡ key = cc in ap (λ (k : List ℕ). is_below k next) (sym same) ∙ all.0
last_up_to next key (r ∷ q ∷ rows) all is = last_up_to next key (q ∷ rows) all.1 is

-- the last key tells whether all are below another
pub last_tells : (next key : List ℕ) (rows : List Row) (end : Row) (b : Bool) → Ascends None rows → Some end ≡ slice_get rows (length rows - 1) → key ≡ end.0 → b ≡ is_below key next → (IsTrue b → IsUpTo (Some next) rows) × (IsUpTo (Some next) rows → IsTrue b)
last_tells next key [] end b ascend is same told = let none : ⊥ = cc in absurd none
last_tells next key (r ∷ rows) end b ascend is same told =
    let at : Some end ≡ slice_get (r ∷ rows) (length rows) = subst (λ (n : ℕ). Some end ≡ slice_get (r ∷ rows) n) (omega arith) is in
    let key_is : last_key (r ∷ rows) ≡ Some end.0 = last_at (r ∷ rows) end (length rows) refl at in
    let below : b ≡ is_below end.0 next = told ∙ ap (λ (k : List ℕ). is_below k next) same in
    (λ yes. up_to_last next end.0 None (r ∷ rows) ascend key_is (sym below ∙ yes), λ all. below ∙ last_up_to next end.0 (r ∷ rows) all key_is)

-- ---- both bounds

pub up_to_none : (rows : List Row) → IsUpTo None rows
up_to_none [] = tt
up_to_none (r ∷ rows) = (refl, up_to_none rows)

pub under_both : (e : Entry) (next : Option (List ℕ)) (rows : List Row) → IsFrom e.key rows → IsUpTo next rows → AreUnder e next rows
under_both e next [] from up = tt
under_both e next (r ∷ rows) from up = ((from.0, up.0), under_both e next rows from.1 up.1)

pub under_from : (e : Entry) (next : Option (List ℕ)) (rows : List Row) → AreUnder e next rows → IsFrom e.key rows
under_from e next [] under = tt
under_from e next (r ∷ rows) under = (under.0.0, under_from e next rows under.1)

pub under_up_to : (e : Entry) (next : Option (List ℕ)) (rows : List Row) → AreUnder e next rows → IsUpTo next rows
under_up_to e next [] under = tt
under_up_to e next (r ∷ rows) under = (under.0.1, under_up_to e next rows under.1)

-- ---- rows that are moved behind others

-- the key of a row is above those before it
pub above_last : (before : Option (List ℕ)) (front : List Row) (r : Row) (rest : List Row) → Ascends before (front ++ r ∷ rest) → IsAboveLast r.0 front
above_last before [] r rest ascend = tt
above_last before (x ∷ []) r rest ascend = ascend.1.0
above_last before (x ∷ y ∷ front) r rest ascend = above_last (Some x.0) (y ∷ front) r rest ascend.1

after_by : (before : Option (List ℕ)) (key k : List ℕ) → comes_after before key ≡ true → is_below k key ≡ false → comes_after before k ≡ true
after_by None key k after isnt = refl
after_by (Some b) key k after isnt = above_by b key k after isnt

all_middle : (P : Row → Type 0) (moved rest : List Row) (r : Row) → AllByRecursion P (moved ++ r ∷ rest) → P r
all_middle P [] rest r all = all.0
all_middle P (x ∷ moved) rest r all = all_middle P moved rest r all.1

pub none_moved : (rows : List Row) → rows ≡ rows ++ []
none_moved rows = sym (append-nil rows)

-- the row that is moved next, which is the first of those that are left
module _ (moved after left all : List Row) (r : Row) (next : left ≡ r ∷ after) (is : moved ++ left ≡ all) where
  whole : moved ++ r ∷ after ≡ all
  whole = ap (λ (l : List Row). moved ++ l) (sym next) ∙ is

  pub row_left : (moved ++ r ∷ []) ++ after ≡ all
  row_left = append_assoc moved (r ∷ []) after ∙ whole

  pub next_fits : AreFit all → RowFits [] key_most r
  next_fits fit = all_middle (λ (x : Row). RowFits [] key_most x) moved after r (subst (λ (l : List Row). AllByRecursion (λ (x : Row). RowFits [] key_most x) l) (sym whole) fit.fit)

  pub next_above : (old rows : List Row) → Ascends None (old ++ all) → rows ≡ old ++ moved → IsAboveLast r.0 rows
  next_above old rows ascend were =
      let joined : old ++ all ≡ rows ++ r ∷ after = ap (λ (l : List Row). old ++ l) (sym whole) ∙ sym (append_assoc old moved (r ∷ after)) ∙ ap (λ (l : List Row). l ++ r ∷ after) (sym were) in
      above_last None rows r after (subst (λ (l : List Row). Ascends None l) joined ascend)

pub row_moved : (old moved rows pushed : List Row) (r : Row) → rows ≡ old ++ moved → pushed ≡ rows ++ r ∷ [] → pushed ≡ old ++ (moved ++ r ∷ [])
row_moved old moved rows pushed r were is = is ∙ ap (λ (l : List Row). l ++ r ∷ []) were ∙ append_assoc old moved (r ∷ [])

ascend_both : (before : Option (List ℕ)) (key : List ℕ) (rows more : List Row) → comes_after before key ≡ true → Ascends before rows → IsUpTo (Some key) rows → Ascends None more → IsFrom key more → Ascends before (rows ++ more)
ascend_both before key [] [] after ascend below next from = tt
ascend_both before key [] (m ∷ more) after ascend below next from = (after_by before key m.0 after (not-true (is_below m.0 key) from.0), next.1)
ascend_both before key (r ∷ rows) more after ascend below next from = (ascend.0, ascend_both (Some r.0) key rows more below.0 ascend.1 below.1 next from)

up_to_through : (key next : List ℕ) (rows : List Row) → is_below key next ≡ true → IsUpTo (Some key) rows → IsUpTo (Some next) rows
up_to_through key next [] below all = tt
up_to_through key next (r ∷ rows) below all = (below_trans r.0 key next all.0 below, up_to_through key next rows below all.1)

up_to_join : (next : Option (List ℕ)) (rows more : List Row) → IsUpTo next rows → IsUpTo next more → IsUpTo next (rows ++ more)
up_to_join next [] more all rest = rest
up_to_join next (r ∷ rows) more all rest = (all.0, up_to_join next rows more all.1 rest)

climbs_tail : (e : Entry) (own : List Entry) → Climbs (e ∷ own) → Climbs own
climbs_tail e [] climbs = tt
climbs_tail e (f ∷ own) climbs = climbs.1

climbs_drop : (own : List Entry) (i : ℕ) → Climbs own → Climbs (drop i own)
climbs_drop own zero climbs = climbs
climbs_drop [] (suc i) climbs = tt
climbs_drop (e ∷ own) (suc i) climbs = climbs_drop own i (climbs_tail e own climbs)

-- what stands from a place on
pub from_here : (own : List Entry) (i : ℕ) (e : Entry) → i < length own → e ≡ get_or own i e → drop i own ≡ e ∷ drop (i + 1) own
from_here own i e lt is = at_drop_more (λ (l : List Entry). l) own i e lt ∙ ap (λ (x : Entry). x ∷ drop (i + 1) own) (sym is)

-- rows below an entry are below the next one
past : (e : Entry) (others : List Entry) (rows : List Row) → Climbs (e ∷ others) → IsUpTo (Some e.key) rows → IsUpTo (first_key others) rows
past e [] rows climbs all = up_to_none rows
past e (f ∷ others) rows climbs all = up_to_through e.key f.key rows climbs.0 all

-- the rows of the leaves in front of the i-th ascend, up to its keys
pub record AreInFront (own : List Entry) (rows : List Row) (i : ℕ) : Type 0 where
  pub ascend : Ascends None rows
  pub below : IsUpTo (first_key (drop i own)) rows

pub none_in_front : (own : List Entry) (rows : List Row) → rows ≡ [] → AreInFront own rows 0
none_in_front own rows none = record { ascend = subst (λ (l : List Row). Ascends None l) (sym none) tt; below = subst (λ (l : List Row). IsUpTo (first_key (drop 0 own)) l) (sym none) tt }

module _ (own : List Entry) (i : ℕ) (e : Entry) (rows more : List Row) (lt : i < length own) (is : e ≡ get_or own i e) (climbs : Climbs own) (front : AreInFront own rows i) (under : AreUnder e (first_key (drop (i + 1) own)) more) where
  here : drop i own ≡ e ∷ drop (i + 1) own
  here = from_here own i e lt is

  below : IsUpTo (Some e.key) rows
  below = subst (λ (k : Option (List ℕ)). IsUpTo k rows) (ap first_key here) front.below

  pub front_ascends : Ascends None more → Ascends None (rows ++ more)
  front_ascends ascend = ascend_both None e.key rows more refl front.ascend below ascend (under_from e (first_key (drop (i + 1) own)) more under)

  pub front_more : (all : List Row) → Ascends None more → all ≡ rows ++ more → AreInFront own all (i + 1)
  front_more all ascend joined = record {
    ascend = subst (λ (l : List Row). Ascends None l) (sym joined) (front_ascends ascend);
    below = subst (λ (l : List Row). IsUpTo (first_key (drop (i + 1) own)) l) (sym joined)
        (up_to_join (first_key (drop (i + 1) own)) rows more (past e (drop (i + 1) own) rows (subst (λ (l : List Entry). Climbs l) here (climbs_drop own i climbs)) below) (under_up_to e (first_key (drop (i + 1) own)) more under));
  }
