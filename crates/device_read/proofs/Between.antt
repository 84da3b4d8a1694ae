-- Pages whose keys are between those of entries: one after the other, they ascend.
use Rattle.std.proofs.Common.{◌≡◌, ◌⊎◌, ℕ, zero, suc, ◌+◌, ◌<◌, Bool, true, false, IsTrue, List, [], ◌∷◌, ◌++◌, length, take, drop, map, Option, Some, None, refl, sym, ap, subst, ◌∙◌, inl, inr, arith}
use Rattle.std.specs.Prelude.{not, filter, slice_get, bytes_eq}
use Rattle.std.specs.List.{AllByRecursion}
use Rattle.std.proofs.lemmas.Bool.{cases_Bool, not-true, not_from_false, both_ways}
use Rattle.std.proofs.lemmas.List.{append-nil}
use Rattle.row_page.specs.Rows.{Row, is_below, comes_after, Ascends}
use Rattle.row_page.proofs.Ascending.{ascends_later, below_trans, below_differs, above_differs}
use Rattle.stored.specs.Tree.{join}
use Rattle.stored.specs.TableTree.{Entry, Climbs, first_key, ends_below}
use Rattle.leaf_rows.specs.declared.marks.Marks.{Marks}
use Rattle.leaf_rows.specs.Contents.{is_seen_row, seen_rows}
use Rattle.leaf_rows.specs.Rows.{version_at}
use Rattle.inner_page.specs.Children.{IsUnderKey}
use Rattle.tree_open.proofs.OneLayer.{key_none}
use Rattle.recover_open.specs.Leaves.{IsFrom, IsUpTo, AreUnder, AreLeaves}
use Rattle.recover_open.proofs.Keys.{above_by, under_from, under_up_to}
use Rattle.leaf_load.proofs.Seen.{some_all}
use Rattle.kv_model.specs.Holds.{Member}
use Rattle.device_read.proofs.Lists.{all_both, all_member}

-- each page ascends, and its keys are from its entry's up to the next one's
abbrev pub AreBetween : List Entry → List (List Row) → Type 0
AreBetween [] [] = Unit {0}
AreBetween [] (p ∷ pages) = ⊥
AreBetween (e ∷ es) [] = ⊥
AreBetween (e ∷ es) (p ∷ pages) = Ascends None p × AreUnder e (first_key es) p × AreBetween es pages

-- ---- what an opening keeps of leaves

pub ascends_some : (p : Row → Bool) (before : Option (List ℕ)) (rows : List Row) → Ascends before rows → Ascends before (filter p rows)
ascends_some p before [] up = tt
ascends_some p before (r ∷ rows) up = elim (cases_Bool (p r)) [
  | inl is ↦ rw is (up.0, ascends_some p (Some r.0) rows up.1)
  | inr isnt ↦ rw isnt (ascends_later before r.0 (filter p rows) up.0 (ascends_some p (Some r.0) rows up.1))
]

pub between_seen : (bytes : List ℕ) (m : Marks) (ids : List ℕ) (es : List Entry) (leaves : List (List Row)) → AreLeaves bytes es None leaves → AreBetween es (map (seen_rows m ids) leaves)
between_seen bytes m ids [] [] are = tt
between_seen bytes m ids [] (rows ∷ leaves) are = absurd are
between_seen bytes m ids (e ∷ es) [] are = absurd are
between_seen bytes m ids (e ∷ es) (rows ∷ leaves) are =
    let keys : AreUnder e (first_key es) rows = subst (λ (k : Option (List ℕ)). AreUnder e k rows) (key_none es) are.0.keys in (
      ascends_some (is_seen_row m ids) None rows are.0.leaf.bears.leaf.ascend,
      some_all (λ (r : Row). IsTrue (not (is_below r.0 e.key)) × IsTrue (ends_below (first_key es) r.0)) (is_seen_row m ids) rows keys,
      between_seen bytes m ids es leaves are.1,
    )

pub as_many : (es : List Entry) (pages : List (List Row)) → AreBetween es pages → length pages ≡ length es
as_many [] [] are = refl
as_many [] (p ∷ pages) are = absurd are
as_many (e ∷ es) [] are = absurd are
as_many (e ∷ es) (p ∷ pages) are = ap suc (as_many es pages are.2)

-- ---- all of them ascend

not_below_sooner : (least first key : List ℕ) → is_below least first ≡ true → IsTrue (not (is_below key first)) → IsTrue (not (is_below key least))
not_below_sooner least first key below isnt = elim (cases_Bool (is_below key least)) [
  | inl is ↦ absurd (both_ways (is_below key first) (not-true (is_below key first) isnt) (below_trans key least first is below))
  | inr other ↦ not_from_false (is_below key least) other
]

from_sooner : (least first : List ℕ) (rows : List Row) → is_below least first ≡ true → IsFrom first rows → IsFrom least rows
from_sooner least first [] below from = tt
from_sooner least first (r ∷ rows) below from = (not_below_sooner least first r.0 below from.0, from_sooner least first rows below from.1)

none_left : (pages : List (List Row)) → AreBetween [] pages → join pages ≡ []
none_left [] are = refl
none_left (p ∷ pages) are = absurd are

from_first : (e : Entry) (es : List Entry) (pages : List (List Row)) → Climbs (e ∷ es) → AreBetween (e ∷ es) pages → IsFrom e.key (join pages)
from_first e es [] climbs are = absurd are
from_first e [] (p ∷ pages) climbs are = all_both (λ (r : Row). IsTrue (not (is_below r.0 e.key))) p (join pages) (under_from e None p are.1) (subst (λ (l : List Row). IsFrom e.key l) (sym (none_left pages are.2)) tt)
from_first e (f ∷ es) (p ∷ pages) climbs are = all_both (λ (r : Row). IsTrue (not (is_below r.0 e.key))) p (join pages) (under_from e (Some f.key) p are.1) (from_sooner e.key f.key (join pages) climbs.0 (from_first f es pages climbs.1 are.2))

-- rows below a key, and others from that key on
ascends_both : (before : Option (List ℕ)) (k : List ℕ) (xs ys : List Row) → Ascends before xs → IsUpTo (Some k) xs → Ascends None ys → IsFrom k ys → ((y : List ℕ) → is_below y k ≡ false → comes_after before y ≡ true) → Ascends before (xs ++ ys)
ascends_both before k [] [] up upto ascend from lower = tt
ascends_both before k [] (y ∷ ys) up upto ascend from lower = (lower y.0 (not-true (is_below y.0 k) from.0), ascend.1)
ascends_both before k (x ∷ xs) ys up upto ascend from lower = (up.0, ascends_both (Some x.0) k xs ys up.1 upto.1 ascend from (λ y isnt. above_by x.0 k y upto.0 isnt))

pub pages_ascend : (es : List Entry) (pages : List (List Row)) → Climbs es → AreBetween es pages → Ascends None (join pages)
pages_ascend [] [] climbs are = tt
pages_ascend [] (p ∷ pages) climbs are = absurd are
pages_ascend (e ∷ es) [] climbs are = absurd are
pages_ascend (e ∷ []) (p ∷ pages) climbs are = subst (λ (l : List Row). Ascends None (p ++ l)) (sym (none_left pages are.2)) (subst (λ (l : List Row). Ascends None l) (sym (append-nil p)) are.0)
pages_ascend (e ∷ f ∷ es) (p ∷ pages) climbs are = ascends_both None f.key p (join pages) are.0 (under_up_to e (Some f.key) p are.1) (pages_ascend (f ∷ es) pages climbs.1 are.2) (from_first f es pages climbs.1 are.2) (λ y isnt. refl)

-- ---- the page of a key

pub front_none : (key : List ℕ) (xs ys : List Row) → version_at key xs ≡ None → version_at key (xs ++ ys) ≡ version_at key ys
front_none key [] ys none = refl
front_none key (x ∷ xs) ys none = elim (cases_Bool (bytes_eq x.0 key)) [
  | inl is ↦ let some = rw is at none in absurd cc
  | inr isnt ↦ rw isnt (front_none key xs ys (rw isnt at none))
]

pub back_none : (key : List ℕ) (xs ys : List Row) → version_at key ys ≡ None → version_at key (xs ++ ys) ≡ version_at key xs
back_none key [] ys none = none
back_none key (x ∷ xs) ys none = elim (cases_Bool (bytes_eq x.0 key)) [
  | inl is ↦ rw is refl
  | inr isnt ↦ rw isnt (back_none key xs ys none)
]

-- the key is below those from another one on
none_from : (key least : List ℕ) (rows : List Row) → is_below key least ≡ true → IsFrom least rows → version_at key rows ≡ None
none_from key least [] below from = refl
none_from key least (r ∷ rows) below from = rw (above_differs r.0 key (above_by key least r.0 below (not-true (is_below r.0 least) from.0))) (none_from key least rows below from.1)

-- the key is not below one that all are below
none_up_to : (key next : List ℕ) (rows : List Row) → is_below key next ≡ false → IsUpTo (Some next) rows → version_at key rows ≡ None
none_up_to key next [] isnt upto = refl
none_up_to key next (r ∷ rows) isnt upto = rw (below_differs r.0 key (above_by r.0 next key upto.0 isnt)) (none_up_to key next rows isnt upto.1)

none_later : (key : List ℕ) (es : List Entry) (pages : List (List Row)) → AreBetween es pages → AllByRecursion (λ (e : Entry). is_below key e.key ≡ true) es → version_at key (join pages) ≡ None
none_later key [] pages are above = ap (version_at key) (none_left pages are)
none_later key (e ∷ es) [] are above = absurd are
none_later key (e ∷ es) (p ∷ pages) are above =
    front_none key p (join pages) (none_from key e.key p above.0 (under_from e (first_key es) p are.1)) ∙ none_later key es pages are.2 above.1

-- of the entry that is the last not above the key
in_page : (key : List ℕ) (es : List Entry) (pages : List (List Row)) (i : ℕ) (page : List Row) → AreBetween es pages → slice_get pages i ≡ Some page → AllByRecursion (λ (e : Entry). is_below key e.key ≡ false) (take i (drop 1 es)) → AllByRecursion (λ (e : Entry). is_below key e.key ≡ true) (drop (suc i) es)
    → version_at key (join pages) ≡ version_at key page
in_page key [] [] i page are at upto behind = absurd cc
in_page key [] (p ∷ pages) i page are at upto behind = absurd are
in_page key (e ∷ es) [] i page are at upto behind = absurd are
in_page key (e ∷ es) (p ∷ pages) zero page are at upto behind =
    let same : p ≡ page = cc in
    back_none key p (join pages) (none_later key es pages are.2 behind) ∙ ap (version_at key) same
in_page key (e ∷ []) (p ∷ []) (suc i) page are at upto behind = absurd cc
in_page key (e ∷ []) (p ∷ q ∷ pages) (suc i) page are at upto behind = absurd are.2
in_page key (e ∷ f ∷ es) (p ∷ pages) (suc i) page are at upto behind =
    front_none key p (join pages) (none_up_to key f.key p upto.0 (under_up_to e (Some f.key) p are.1)) ∙ in_page key (f ∷ es) pages i page are.2 at upto.1 behind

plus_one : (i : ℕ) → i + 1 ≡ suc i
plus_one i = omega arith

first_left : (P : Entry → Type 0) (es : List Entry) (i : ℕ) → AllByRecursion P (take (i + 1) es) → AllByRecursion P (take (suc i) es)
first_left P es i all = subst (λ (n : ℕ). AllByRecursion P (take n es)) (plus_one i) all

after_first : (P : Entry → Type 0) (es : List Entry) (i : ℕ) → AllByRecursion P (take (i + 1) es) → AllByRecursion P (take i (drop 1 es))
after_first P [] zero all = tt
after_first P [] (suc i) all = tt
after_first P (e ∷ es) zero all = tt
after_first P (e ∷ es) (suc i) all = (first_left P (e ∷ es) (suc i) all).1

pub page_of_key : (key : List ℕ) (es : List Entry) (pages : List (List Row)) (i : ℕ) (page : List Row) → AreBetween es pages → IsUnderKey es key i → slice_get pages i ≡ Some page → version_at key (join pages) ≡ version_at key page
page_of_key key es pages i page are under at = in_page key es pages i page are at (upto_of under.upto) (subst (λ (n : ℕ). AllByRecursion (λ (e : Entry). is_below key e.key ≡ true) (drop n es)) (plus_one i) under.behind)
  where
    upto_of : (i ≡ 0) ⊎ AllByRecursion (λ (e : Entry). is_below key e.key ≡ false) (take (i + 1) es) → AllByRecursion (λ (e : Entry). is_below key e.key ≡ false) (take i (drop 1 es))
    upto_of (inl first) = subst (λ (n : ℕ). AllByRecursion (λ (e : Entry). is_below key e.key ≡ false) (take n (drop 1 es))) (sym first) tt
    upto_of (inr all) = after_first (λ (e : Entry). is_below key e.key ≡ false) es i all

-- ---- the keys of a page

pub all_above : (key : List ℕ) (es : List Entry) → Climbs es → IsTrue (ends_below (first_key es) key) → AllByRecursion (λ (e : Entry). is_below key e.key ≡ true) es
all_above key [] climbs ends = tt
all_above key (f ∷ []) climbs ends = (ends, tt)
all_above key (f ∷ g ∷ es) climbs ends = (ends, all_above key (g ∷ es) climbs.1 (below_trans key f.key g.key ends climbs.0))

keys_upto : (es : List Entry) (pages : List (List Row)) (i : ℕ) (page : List Row) (r : Row) → Climbs es → AreBetween es pages → slice_get pages i ≡ Some page → Member r page → AllByRecursion (λ (e : Entry). is_below r.0 e.key ≡ false) (take (suc i) es)
keys_upto [] [] i page r climbs are at there = absurd cc
keys_upto [] (p ∷ pages) i page r climbs are at there = absurd are
keys_upto (e ∷ es) [] i page r climbs are at there = absurd are
keys_upto (e ∷ es) (p ∷ pages) zero page r climbs are at there =
    let same : p ≡ page = cc in
    let under = all_member (λ (x : Row). IsTrue (not (is_below x.0 e.key)) × IsTrue (ends_below (first_key es) x.0)) page r (subst (λ (l : List Row). AreUnder e (first_key es) l) same are.1) there in
    (not-true (is_below r.0 e.key) under.0, tt)
keys_upto (e ∷ []) (p ∷ []) (suc i) page r climbs are at there = absurd cc
keys_upto (e ∷ []) (p ∷ q ∷ pages) (suc i) page r climbs are at there = absurd are.2
keys_upto (e ∷ f ∷ es) (p ∷ pages) (suc i) page r climbs are at there =
    let rest = keys_upto (f ∷ es) pages i page r climbs.1 are.2 at there in
    (not-true (is_below r.0 e.key) (not_below_sooner e.key f.key r.0 climbs.0 (not_from_false (is_below r.0 f.key) rest.0)), rest)

keys_behind : (es : List Entry) (pages : List (List Row)) (i : ℕ) (page : List Row) (r : Row) → Climbs es → AreBetween es pages → slice_get pages i ≡ Some page → Member r page → AllByRecursion (λ (e : Entry). is_below r.0 e.key ≡ true) (drop (suc i) es)
keys_behind [] [] i page r climbs are at there = absurd cc
keys_behind [] (p ∷ pages) i page r climbs are at there = absurd are
keys_behind (e ∷ es) [] i page r climbs are at there = absurd are
keys_behind (e ∷ []) (p ∷ pages) zero page r climbs are at there = tt
keys_behind (e ∷ f ∷ es) (p ∷ pages) zero page r climbs are at there =
    let same : p ≡ page = cc in
    let under = all_member (λ (x : Row). IsTrue (not (is_below x.0 e.key)) × IsTrue (ends_below (Some f.key) x.0)) page r (subst (λ (l : List Row). AreUnder e (Some f.key) l) same are.1) there in
    all_above r.0 (f ∷ es) climbs.1 under.1
keys_behind (e ∷ []) (p ∷ []) (suc i) page r climbs are at there = absurd cc
keys_behind (e ∷ []) (p ∷ q ∷ pages) (suc i) page r climbs are at there = absurd are.2
keys_behind (e ∷ f ∷ es) (p ∷ pages) (suc i) page r climbs are at there = keys_behind (f ∷ es) pages i page r climbs.1 are.2 at there

page_within : (es : List Entry) (pages : List (List Row)) (i : ℕ) (page : List Row) → AreBetween es pages → slice_get pages i ≡ Some page → i < length es
page_within [] [] i page are at = absurd cc
page_within [] (p ∷ pages) i page are at = absurd are
page_within (e ∷ es) [] i page are at = absurd are
page_within (e ∷ es) (p ∷ pages) zero page are at = omega arith
page_within (e ∷ es) (p ∷ pages) (suc i) page are at = let less : i < length es = page_within es pages i page are.2 at in omega (arith, less)

pub key_under : (es : List Entry) (pages : List (List Row)) (i : ℕ) (page : List Row) (r : Row) → Climbs es → AreBetween es pages → slice_get pages i ≡ Some page → Member r page → IsUnderKey es r.0 i
key_under es pages i page r climbs are at there = record {
  within = page_within es pages i page are at;
  upto = inr (subst (λ (n : ℕ). AllByRecursion (λ (e : Entry). is_below r.0 e.key ≡ false) (take n es)) (sym (plus_one i)) (keys_upto es pages i page r climbs are at there));
  behind = subst (λ (n : ℕ). AllByRecursion (λ (e : Entry). is_below r.0 e.key ≡ true) (drop n es)) (sym (plus_one i)) (keys_behind es pages i page r climbs are at there);
}

-- each page ascends
pub page_ascends : (es : List Entry) (pages : List (List Row)) (i : ℕ) (page : List Row) → AreBetween es pages → slice_get pages i ≡ Some page → Ascends None page
page_ascends [] [] i page are at = absurd cc
page_ascends [] (p ∷ pages) i page are at = absurd are
page_ascends (e ∷ es) [] i page are at = absurd are
page_ascends (e ∷ es) (p ∷ pages) zero page are at = let same : p ≡ page = cc in subst (λ (l : List Row). Ascends None l) same are.0
page_ascends (e ∷ es) (p ∷ pages) (suc i) page are at = page_ascends es pages i page are.2 at
