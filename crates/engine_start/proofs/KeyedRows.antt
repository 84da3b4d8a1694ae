-- The version of a key among rows behind others, and rows between keys.
use Rattle.std.proofs.Common.{◌≡◌, ℕ, Bool, true, false, IsTrue, List, [], ◌∷◌, ◌++◌, Option, Some, None, refl, sym, ap, subst, ◌∙◌, inl, inr}
use Rattle.std.specs.Prelude.{bytes_eq, filter, map, not, option_map}
use Rattle.std.specs.List.{AllByRecursion}
use Rattle.std.proofs.lemmas.Bool.{cases_Bool, both_ways, not-true}
use Rattle.std.proofs.lemmas.List.{append-nil}
use Rattle.std.proofs.lemmas.List.Elements.{filter-append}
use Rattle.row_page.specs.Changes.{version_in}
use Rattle.row_page.specs.Rows.{Ascends, Row, RowFits, comes_after, is_below, key_most}
use Rattle.row_page.proofs.Ascending.{below_trans, keys_part}
use Rattle.leaf_rows.specs.Rows.{AreFit, version_at}
use Rattle.reconcile.specs.Shows.{shown_at}
use Rattle.reconcile.proofs.Keyed.{same_key}
use Rattle.stored.specs.Tree.{join}
use Rattle.stored.specs.TableTree.{Climbs, Entry, Stay, ends_below}

-- ---- keys

-- what is not below a key is above what is below it
above_by : (x k y : List ℕ) → is_below x k ≡ true → is_below y k ≡ false → is_below x y ≡ true
above_by x k y below isnt = elim (cases_Bool (bytes_eq y k)) [
  | inl same ↦ subst (λ (z : List ℕ). is_below x z ≡ true) (sym (same_key y k same)) below
  | inr other ↦ below_trans x k y below (keys_part y k isnt other)
]

-- a key that is below another one is none that is not
part_from : (key low x : List ℕ) → is_below key low ≡ true → is_below x low ≡ false → bytes_eq x key ≡ false
part_from key low x below isnt = elim (cases_Bool (bytes_eq x key)) [
  | inl same ↦ absurd (both_ways (is_below x low) isnt (subst (λ (k : List ℕ). is_below k low ≡ true) (sym (same_key x key same)) below))
  | inr other ↦ other
]

part_below : (key high x : List ℕ) → is_below key high ≡ false → is_below x high ≡ true → bytes_eq x key ≡ false
part_below key high x isnt below = elim (cases_Bool (bytes_eq x key)) [
  | inl same ↦ absurd (both_ways (is_below key high) isnt (subst (λ (k : List ℕ). is_below k high ≡ true) (same_key x key same) below))
  | inr other ↦ other
]

-- ---- the version of a key

-- none of the rows has the key
abbrev pub NoneHas : List ℕ → List Row → Type 0
NoneHas key rows = AllByRecursion (λ (r : Row). bytes_eq r.0 key ≡ false) rows

none_filter : (p : Row → Bool) (key : List ℕ) (rows : List Row) → NoneHas key rows → NoneHas key (filter p rows)
none_filter p key [] none = tt
none_filter p key (r ∷ rows) none = elim (cases_Bool (p r)) [
  | inl is ↦ rw is (none.0, none_filter p key rows none.1)
  | inr isnt ↦ rw isnt (none_filter p key rows none.1)
]

none_shown : (key : List ℕ) (rows : List Row) → NoneHas key rows → version_at key rows ≡ None
none_shown key [] none = refl
none_shown key (r ∷ rows) none = rw none.0 (none_shown key rows none.1)

behind_none : (key : List ℕ) (rows others : List Row) → NoneHas key rows → version_at key (rows ++ others) ≡ version_at key others
behind_none key [] others none = refl
behind_none key (r ∷ rows) others none = rw none.0 (behind_none key rows others none.1)

before_none : (key : List ℕ) (rows others : List Row) → NoneHas key others → version_at key (rows ++ others) ≡ version_at key rows
before_none key [] others none = none_shown key others none
before_none key (r ∷ rows) others none = elim (cases_Bool (bytes_eq r.0 key)) [
  | inl is ↦ rw is refl
  | inr isnt ↦ rw isnt (before_none key rows others none)
]

-- and of those that are kept
pub none_kept : (p : Row → Bool) (key : List ℕ) (rows : List Row) → NoneHas key rows → shown_at key (filter p rows) ≡ None
none_kept p key rows none = ap (option_map version_in) (none_shown key (filter p rows) (none_filter p key rows none))

pub kept_behind : (p : Row → Bool) (key : List ℕ) (rows others : List Row) → NoneHas key rows → shown_at key (filter p (rows ++ others)) ≡ shown_at key (filter p others)
kept_behind p key rows others none =
    ap (λ (l : List Row). shown_at key l) (filter-append p rows others) ∙ ap (option_map version_in) (behind_none key (filter p rows) (filter p others) (none_filter p key rows none))

pub kept_before : (p : Row → Bool) (key : List ℕ) (rows others : List Row) → NoneHas key others → shown_at key (filter p (rows ++ others)) ≡ shown_at key (filter p rows)
kept_before p key rows others none =
    ap (λ (l : List Row). shown_at key l) (filter-append p rows others) ∙ ap (option_map version_in) (before_none key (filter p rows) (filter p others) (none_filter p key others none))

-- ---- rows from a key on, and rows up to one

abbrev pub AreFrom : List ℕ → List Row → Type 0
AreFrom low rows = AllByRecursion (λ (r : Row). is_below r.0 low ≡ false) rows

abbrev pub AreUpTo : List ℕ → List Row → Type 0
AreUpTo high rows = AllByRecursion (λ (r : Row). is_below r.0 high ≡ true) rows

pub from_none : (key low : List ℕ) (rows : List Row) → is_below key low ≡ true → AreFrom low rows → NoneHas key rows
from_none key low [] below from = tt
from_none key low (r ∷ rows) below from = (part_from key low r.0 below from.0, from_none key low rows below from.1)

pub to_none : (key high : List ℕ) (rows : List Row) → is_below key high ≡ false → AreUpTo high rows → NoneHas key rows
to_none key high [] isnt to = tt
to_none key high (r ∷ rows) isnt to = (part_below key high r.0 isnt to.0, to_none key high rows isnt to.1)

from_both : (low : List ℕ) (rows others : List Row) → AreFrom low rows → AreFrom low others → AreFrom low (rows ++ others)
from_both low [] others from also = also
from_both low (r ∷ rows) others from also = (from.0, from_both low rows others from.1 also)

-- a key that is above another one
pub not_lower : (low high x : List ℕ) → is_below low high ≡ true → is_below x high ≡ false → is_below x low ≡ false
not_lower low high x below isnt = elim (cases_Bool (is_below x low)) [
  | inl is ↦ absurd (both_ways (is_below x high) isnt (below_trans x low high is below))
  | inr isnot ↦ isnot
]

from_lower : (low high : List ℕ) (rows : List Row) → is_below low high ≡ true → AreFrom high rows → AreFrom low rows
from_lower low high [] below from = tt
from_lower low high (r ∷ rows) below from = (not_lower low high r.0 below from.0, from_lower low high rows below from.1)

-- ---- the leaves of a table

abbrev pub AreWithin : List ℕ → Option (List ℕ) → List Row → Type 0
AreWithin low next rows = AllByRecursion (λ (r : Row). IsTrue (not (is_below r.0 low)) × IsTrue (ends_below next r.0)) rows

pub within_from : (low : List ℕ) (next : Option (List ℕ)) (rows : List Row) → AreWithin low next rows → AreFrom low rows
within_from low next [] within = tt
within_from low next (r ∷ rows) within = (not-true (is_below r.0 low) within.0.0, within_from low next rows within.1)

pub within_to : (low high : List ℕ) (rows : List Row) → AreWithin low (Some high) rows → AreUpTo high rows
within_to low high [] within = tt
within_to low high (r ∷ rows) within = (within.0.1, within_to low high rows within.1)

module _ (rows_of : Entry → List Row) where
  -- all rows are from the first entry's key on
  pub join_from : (e : Entry) (es : List Entry) → Climbs (e ∷ es) → Stay (e ∷ es) (map rows_of (e ∷ es)) → AreFrom e.key (join (map rows_of (e ∷ es)))
  join_from e [] climbs stay = from_both e.key (rows_of e) [] (within_from e.key None (rows_of e) stay.0) tt
  join_from e (f ∷ es) climbs stay =
      from_both e.key (rows_of e) (join (map rows_of (f ∷ es))) (within_from e.key (Some f.key) (rows_of e) stay.0) (from_lower e.key f.key (join (map rows_of (f ∷ es))) climbs.0 (join_from f es climbs.1 stay.1))

  -- ---- they fit

  fit_both : (rows others : List Row) → AllByRecursion (λ (r : Row). RowFits [] key_most r) rows → AllByRecursion (λ (r : Row). RowFits [] key_most r) others → AllByRecursion (λ (r : Row). RowFits [] key_most r) (rows ++ others)
  fit_both [] others fit also = also
  fit_both (r ∷ rows) others fit also = (fit.0, fit_both rows others fit.1 also)

  join_fit : (es : List Entry) → AllByRecursion (λ (rows : List Row). AreFit rows) (map rows_of es) → AllByRecursion (λ (r : Row). RowFits [] key_most r) (join (map rows_of es))
  join_fit [] fit = tt
  join_fit (e ∷ es) fit = fit_both (rows_of e) (join (map rows_of es)) fit.0.fit (join_fit es fit.1)

  abbrev IsUnder : Option (List ℕ) → List ℕ → Type 0
  IsUnder None high = Unit {0}
  IsUnder (Some before) high = is_below before high ≡ true

  first_after : (before : Option (List ℕ)) (high key : List ℕ) → IsUnder before high → is_below key high ≡ false → comes_after before key ≡ true
  first_after None high key under isnt = refl
  first_after (Some before) high key under isnt = above_by before high key under isnt

  ascend_both : (before : Option (List ℕ)) (high : List ℕ) (rows others : List Row) → IsUnder before high → Ascends before rows → AreUpTo high rows → Ascends None others → AreFrom high others → Ascends before (rows ++ others)
  ascend_both before high [] [] under ascend to up from = tt
  ascend_both before high [] (r ∷ others) under ascend to up from = (first_after before high r.0 under from.0, up.1)
  ascend_both before high (r ∷ rows) others under ascend to up from = (ascend.0, ascend_both (Some r.0) high rows others to.0 ascend.1 to.1 up from)

  join_ascends : (es : List Entry) → Climbs es → Stay es (map rows_of es) → AllByRecursion (λ (rows : List Row). AreFit rows) (map rows_of es) → Ascends None (join (map rows_of es))
  join_ascends [] climbs stay fit = tt
  join_ascends (e ∷ []) climbs stay fit = subst (λ (l : List Row). Ascends None l) (sym (append-nil (rows_of e))) fit.0.ascend
  join_ascends (e ∷ f ∷ es) climbs stay fit =
      ascend_both None f.key (rows_of e) (join (map rows_of (f ∷ es))) tt fit.0.ascend (within_to e.key f.key (rows_of e) stay.0) (join_ascends (f ∷ es) climbs.1 stay.1 fit.1) (join_from f es climbs.1 stay.1)

  pub joined_fit : (es : List Entry) → Climbs es → Stay es (map rows_of es) → AllByRecursion (λ (rows : List Row). AreFit rows) (map rows_of es) → AreFit (join (map rows_of es))
  joined_fit es climbs stay fit = record { fit = join_fit es fit; ascend = join_ascends es climbs stay fit }
