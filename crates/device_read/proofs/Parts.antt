-- Where the records of a key and of a leaf stand among those of a reader.
use Rattle.std.proofs.Common.{◌≡◌, ◌⊎◌, ◌<◌, ◌≤◌, ℕ, zero, suc, Bool, true, false, List, [], ◌∷◌, ◌++◌, length, take, drop, get_or, Option, Some, None, refl, sym, ap, ap₂, subst, ◌∙◌, inl, inr, arith}
use Rattle.std.specs.Prelude.{◌==◌, ◌&&◌, bytes_eq, filter, nat_lt, not, slice_get}
use Rattle.std.specs.List.{AllByRecursion, AllWithin}
use Rattle.std.specs.List.Sorted.{IsPartitionPoint, IsPartitionedBy}
use Rattle.std.specs.Cmp.{ranks}
use Rattle.std.specs.Cmp.Lexicographic.{slice_cmp}
use Rattle.std.specs.Ordering.{MatchOrdering, is_lt, nat_cmp, ordering_then}
use Rattle.std.specs.declared.cmp.Ordering.{Ordering}
use Rattle.std.specs.declared.cmp.Ordering.TheVariants.{Less, Equal, Greater}
use Rattle.std.proofs.lemmas.Bool.{and_from, and_parts, both_ways, cases_Bool, cases_order, eq-eqb, eqb-true, false_from_ne_true, lt-ltb, ltb-true, not-true, not_from_false, or_cases, or_left, or_right}
use Rattle.std.proofs.lemmas.List.{append-nil, take-append-drop}
use Rattle.std.proofs.lemmas.List.Elements.{filter-append}
use Rattle.stored.specs.HistoryTree.{HistoryRecord}
use Rattle.stored.specs.TableTree.{ends_below}
use Rattle.row_page.specs.Rows.{Ascends, Row, is_below}
use Rattle.row_page.proofs.Ascending.{below_differs, below_trans}
use Rattle.reconcile.proofs.Keyed.{key_self, same_key}
use Rattle.leaf_rows.specs.Rows.{version_at}
use Rattle.device_read.specs.Newest.{IsCountBefore, KeysClimb, is_of_leaf, is_sooner, key_cmp, of_leaf, record_at, rows_of}
use Rattle.device_read.proofs.NewestRecords.{all_behind, climb_at, climb_later}

-- ---- the order of keys, in words

less_parts : (a b : Ordering) → ordering_then a b ≡ Less → (a ≡ Less) ⊎ ((a ≡ Equal) × (b ≡ Less))
less_parts Less b is = inl refl
less_parts Equal b is = inr (refl, is)
less_parts Greater b is = absurd cc

pub number_less : (x y : ℕ) → nat_cmp x y ≡ Less → x < y
number_less x y is = let m : MatchOrdering Less (x < y) (x ≡ y) (y < x) = subst (λ (o : Ordering). MatchOrdering o (x < y) (x ≡ y) (y < x)) is (ranks x y) in m

number_same : (x y : ℕ) → nat_cmp x y ≡ Equal → x ≡ y
number_same x y is = let m : MatchOrdering Equal (x < y) (x ≡ y) (y < x) = subst (λ (o : Ordering). MatchOrdering o (x < y) (x ≡ y) (y < x)) is (ranks x y) in m

-- of a table before the other's, or of its table and a key below
pub less_keys : (r s : HistoryRecord) → key_cmp r s ≡ Less → (r.table < s.table) ⊎ ((r.table ≡ s.table) × (is_below r.key s.key ≡ true))
less_keys r s is = elim (less_parts (nat_cmp r.table s.table) (slice_cmp nat_cmp r.key s.key) is) [
  | inl less ↦ inl (number_less r.table s.table less)
  | inr (same, less) ↦ inr (number_same r.table s.table same, ap is_lt less)
]

sooner_parts : (table : ℕ) (key : Option (List ℕ)) (r : HistoryRecord) → is_sooner table key r ≡ true → (r.table < table) ⊎ ((r.table ≡ table) × (ends_below key r.key ≡ true))
sooner_parts table key r is = elim (or_cases (nat_lt r.table table) ((r.table == table) && ends_below key r.key) is) [
  | inl less ↦ inl (ltb-true r.table table less)
  | inr own ↦ let p = and_parts (r.table == table) (ends_below key r.key) own in inr (eqb-true r.table table p.0, p.1)
]

sooner_less : (table : ℕ) (key : Option (List ℕ)) (r : HistoryRecord) → r.table < table → is_sooner table key r ≡ true
sooner_less table key r less = or_left (nat_lt r.table table) ((r.table == table) && ends_below key r.key) (lt-ltb r.table table less)

sooner_own : (table : ℕ) (key : Option (List ℕ)) (r : HistoryRecord) → r.table ≡ table → ends_below key r.key ≡ true → is_sooner table key r ≡ true
sooner_own table key r same ends = or_right (nat_lt r.table table) ((r.table == table) && ends_below key r.key) (and_from (r.table == table) (ends_below key r.key) (eq-eqb r.table table same) ends)

ends_sooner : (key : Option (List ℕ)) (x y : List ℕ) → is_below x y ≡ true → ends_below key y ≡ true → ends_below key x ≡ true
ends_sooner None x y below ends = refl
ends_sooner (Some next) x y below ends = below_trans x y next below ends

-- what is before one that is sooner is sooner
pub sooner_before : (table : ℕ) (key : Option (List ℕ)) (r s : HistoryRecord) → key_cmp r s ≡ Less → is_sooner table key s ≡ true → is_sooner table key r ≡ true
sooner_before table key r s less is = by (less_keys r s less) (sooner_parts table key s is)
  where
    by : (r.table < s.table) ⊎ ((r.table ≡ s.table) × (is_below r.key s.key ≡ true)) → (s.table < table) ⊎ ((s.table ≡ table) × (ends_below key s.key ≡ true)) → is_sooner table key r ≡ true
    by (inl a) (inl b) = sooner_less table key r (omega (arith, a, b))
    by (inl a) (inr b) = sooner_less table key r (omega (arith, a, b.0))
    by (inr a) (inl b) = sooner_less table key r (omega (arith, a.0, b))
    by (inr a) (inr b) = sooner_own table key r (a.0 ∙ b.0) (ends_sooner key r.key s.key a.1 b.1)

-- ---- as many as are sooner

pub sooner_first : (table : ℕ) (key : Option (List ℕ)) (records : List HistoryRecord) → KeysClimb records → IsPartitionedBy (is_sooner table key) records
sooner_first table key records climb i j d le within is = elim (cases i j le) [
  | inl same ↦ subst (λ (n : ℕ). is_sooner table key (get_or records n d) ≡ true) (sym same) is
  | inr lt ↦ sooner_before table key (get_or records i d) (get_or records j d) (climb_at records i j d climb lt within) is
]
  where
    cases : (i j : ℕ) → i ≤ j → (i ≡ j) ⊎ (i < j)
    cases i j le = elim (cases_order i j) [ inl same ↦ inl same | inr (inl lt) ↦ inr lt | inr (inr gt) ↦ absurd (omega (arith, le, gt)) ]

all_within : {A : Type 0} (P : A → Type 0) (xs : List A) (n : ℕ) → AllWithin P xs 0 n → n ≤ length xs → AllByRecursion P (take n xs)
all_within P xs zero all le = tt
all_within P [] (suc n) all le = absurd (omega (arith, le))
all_within {A} P (x ∷ xs) (suc n) all le = (all 0 x (omega arith) (omega arith), all_within P xs n (λ k d low lt. all (suc k) d (omega arith) (omega (arith, lt))) (omega (arith, le)))

all_past : {A : Type 0} (P : A → Type 0) (xs : List A) (n : ℕ) → AllWithin P xs n (length xs) → AllByRecursion P (drop n xs)
all_past P [] zero all = tt
all_past P [] (suc n) all = tt
all_past {A} P (x ∷ xs) zero all = (all 0 x (omega arith) (omega arith), all_past P xs 0 (λ k d low lt. all (suc k) d (omega arith) (omega (arith, lt))))
all_past {A} P (x ∷ xs) (suc n) all = all_past P xs n (λ k d low lt. all (suc k) d (omega (arith, low)) (omega (arith, lt)))

pub count_is : (table : ℕ) (key : Option (List ℕ)) (records : List HistoryRecord) (n : ℕ) → n ≤ length records → IsPartitionPoint (λ (r : HistoryRecord). is_sooner table key r ≡ true) (λ (r : HistoryRecord). is_sooner table key r ≡ false) records n
    → IsCountBefore table key records n
count_is table key records n le point = record {
  within = le;
  sooner = all_within (λ (r : HistoryRecord). is_sooner table key r ≡ true) records n point.0 le;
  others = all_past (λ (r : HistoryRecord). is_sooner table key r ≡ false) records n point.1;
}

-- ---- the records of a leaf

filter_none : {A : Type 0} (p : A → Bool) (xs : List A) → AllByRecursion (λ (x : A). p x ≡ false) xs → filter p xs ≡ []
filter_none p [] all = refl
filter_none p (x ∷ xs) all = rw all.0 (filter_none p xs all.1)

filter_all : {A : Type 0} (p : A → Bool) (xs : List A) → AllByRecursion (λ (x : A). p x ≡ true) xs → filter p xs ≡ xs
filter_all p [] all = refl
filter_all {A} p (x ∷ xs) all = rw all.0 (ap (λ (l : List A). x ∷ l) (filter_all p xs all.1))

all_take : {A : Type 0} (P : A → Type 0) (xs : List A) (n : ℕ) → AllByRecursion P xs → AllByRecursion P (take n xs)
all_take P xs zero all = tt
all_take P [] (suc n) all = tt
all_take P (x ∷ xs) (suc n) all = (all.0, all_take P xs n all.1)

all_more : {A : Type 0} (P Q R : A → Type 0) (xs : List A) → ((x : A) → P x → Q x → R x) → AllByRecursion P xs → AllByRecursion Q xs → AllByRecursion R xs
all_more P Q R [] more all also = tt
all_more P Q R (x ∷ xs) more all also = (more x all.0 also.0, all_more P Q R xs more all.1 also.1)

all_map : {A : Type 0} (P R : A → Type 0) (xs : List A) → ((x : A) → P x → R x) → AllByRecursion P xs → AllByRecursion R xs
all_map P R [] more all = tt
all_map P R (x ∷ xs) more all = (more x all.0, all_map P R xs more all.1)

module _ (table : ℕ) (low : List ℕ) (next : Option (List ℕ)) where
  sooner_not : (r : HistoryRecord) → is_sooner table (Some low) r ≡ true → is_of_leaf table low next r ≡ false
  sooner_not r is = false_from_ne_true (is_of_leaf table low next r) (λ own. by own (sooner_parts table (Some low) r is))
    where
      by : is_of_leaf table low next r ≡ true → (r.table < table) ⊎ ((r.table ≡ table) × (is_below r.key low ≡ true)) → ⊥
      by own (inl less) = let same = eqb-true r.table table (and_parts (r.table == table) (not (is_below r.key low) && ends_below next r.key) own).0 in omega (arith, less, same)
      by own (inr there) =
          let p = and_parts (r.table == table) (not (is_below r.key low) && ends_below next r.key) own in
          let q = and_parts (not (is_below r.key low)) (ends_below next r.key) p.1 in
          both_ways (is_below r.key low) (not-true (is_below r.key low) q.0) there.1

  between : (r : HistoryRecord) → is_sooner table (Some low) r ≡ false → is_sooner table next r ≡ true → is_of_leaf table low next r ≡ true
  between r isnt is = by (sooner_parts table next r is)
    where
      by : (r.table < table) ⊎ ((r.table ≡ table) × (ends_below next r.key ≡ true)) → is_of_leaf table low next r ≡ true
      by (inl less) = absurd (both_ways (is_sooner table (Some low) r) isnt (sooner_less table (Some low) r less))
      by (inr there) =
          and_from (r.table == table) (not (is_below r.key low) && ends_below next r.key) (eq-eqb r.table table there.0)
          (and_from (not (is_below r.key low)) (ends_below next r.key)
          (not_from_false (is_below r.key low) (false_from_ne_true (is_below r.key low) (λ below. both_ways (is_sooner table (Some low) r) isnt (sooner_own table (Some low) r there.0 below)))) there.1)

  later_not : (r : HistoryRecord) → is_sooner table next r ≡ false → is_of_leaf table low next r ≡ false
  later_not r isnt = false_from_ne_true (is_of_leaf table low next r) (λ own.
      let p = and_parts (r.table == table) (not (is_below r.key low) && ends_below next r.key) own in
      let q = and_parts (not (is_below r.key low)) (ends_below next r.key) p.1 in
      both_ways (is_sooner table next r) isnt (sooner_own table next r (eqb-true r.table table p.0) q.1))

  -- they are those behind the ones before the low key, up to the next one
  pub leaf_part : (records : List HistoryRecord) (n m : ℕ) → IsCountBefore table (Some low) records n → IsCountBefore table next (drop n records) m → take m (drop n records) ≡ of_leaf table low next records
  leaf_part records n m first end =
      let p : HistoryRecord → Bool = is_of_leaf table low next in
      let rest : List HistoryRecord = drop n records in
      let front : filter p (take n records) ≡ [] = filter_none p (take n records) (all_map (λ (r : HistoryRecord). is_sooner table (Some low) r ≡ true) (λ (r : HistoryRecord). p r ≡ false) (take n records) sooner_not first.sooner) in
      let own : filter p (take m rest) ≡ take m rest = filter_all p (take m rest)
      (all_more (λ (r : HistoryRecord). is_sooner table (Some low) r ≡ false) (λ (r : HistoryRecord). is_sooner table next r ≡ true) (λ (r : HistoryRecord). p r ≡ true) (take m rest) between
      (all_take (λ (r : HistoryRecord). is_sooner table (Some low) r ≡ false) rest m first.others) end.sooner) in
      let back : filter p (drop m rest) ≡ [] = filter_none p (drop m rest) (all_map (λ (r : HistoryRecord). is_sooner table next r ≡ false) (λ (r : HistoryRecord). p r ≡ false) (drop m rest) later_not end.others) in
      sym (
      ap (filter p) (sym (take-append-drop n records))
      ∙ filter-append p (take n records) rest
      ∙ ap (λ (l : List HistoryRecord). l ++ filter p rest) front
      ∙ ap (filter p) (sym (take-append-drop m rest))
      ∙ filter-append p (take m rest) (drop m rest)
      ∙ ap₂ (λ (x y : List HistoryRecord). x ++ y) own back
      ∙ append-nil (take m rest)
      )

-- they ascend by key
rows_behind : (r : HistoryRecord) (table : ℕ) (low : List ℕ) (next : Option (List ℕ)) (records : List HistoryRecord) → r.table ≡ table → AllByRecursion (λ (s : HistoryRecord). key_cmp r s ≡ Less) records
    → AllByRecursion (λ (x : Row). is_below r.key x.0 ≡ true) (rows_of (of_leaf table low next records))
rows_behind r table low next [] own all = tt
rows_behind r table low next (s ∷ records) own all = elim (cases_Bool (is_of_leaf table low next s)) [
  | inl is ↦ rw is (by is (less_keys r s all.0), rows_behind r table low next records own all.1)
  | inr isnt ↦ rw isnt (rows_behind r table low next records own all.1)
]
  where
    by : is_of_leaf table low next s ≡ true → (r.table < s.table) ⊎ ((r.table ≡ s.table) × (is_below r.key s.key ≡ true)) → is_below r.key s.key ≡ true
    by is (inl less) = let same = eqb-true s.table table (and_parts (s.table == table) (not (is_below s.key low) && ends_below next s.key) is).0 in absurd (omega (arith, less, same, own))
    by is (inr there) = there.1

ascends_behind : (key : List ℕ) (rows : List Row) → AllByRecursion (λ (x : Row). is_below key x.0 ≡ true) rows → Ascends None rows → Ascends (Some key) rows
ascends_behind key [] all up = tt
ascends_behind key (r ∷ rows) all up = (all.0, up.1)

pub leaf_ascends : (table : ℕ) (low : List ℕ) (next : Option (List ℕ)) (records : List HistoryRecord) → KeysClimb records → Ascends None (rows_of (of_leaf table low next records))
leaf_ascends table low next [] climb = tt
leaf_ascends table low next (r ∷ records) climb = elim (cases_Bool (is_of_leaf table low next r)) [
  | inl is ↦ rw is (
    refl,
    ascends_behind r.key (rows_of (of_leaf table low next records)) (rows_behind r table low next records (eqb-true r.table table (and_parts (r.table == table) (not (is_below r.key low) && ends_below next r.key) is).0) (all_behind r records climb))
        (leaf_ascends table low next records (climb_later r records climb)),
  )
  | inr isnt ↦ rw isnt (leaf_ascends table low next records (climb_later r records climb))
]

-- a key that may stand in the leaf has its record there
pub leaf_version : (table : ℕ) (low : List ℕ) (next : Option (List ℕ)) (key : List ℕ) (records : List HistoryRecord) → is_below key low ≡ false → ends_below next key ≡ true → version_at key (rows_of (of_leaf table low next records)) ≡ record_at table key records
leaf_version table low next key [] isnt ends = refl
leaf_version table low next key (r ∷ records) isnt ends = elim (cases_Bool (is_of_leaf table low next r)) [
  | inl is ↦
      let own : (r.table == table) ≡ true = (and_parts (r.table == table) (not (is_below r.key low) && ends_below next r.key) is).0 in
      elim (cases_Bool (bytes_eq r.key key)) [
        | inl same ↦ rw (is, own, same) refl
        | inr other ↦ rw (is, own, other) (leaf_version table low next key records isnt ends)
      ]
  | inr denied ↦ elim (cases_Bool ((r.table == table) && bytes_eq r.key key)) [
    | inl here ↦ absurd (both_ways (is_of_leaf table low next r) denied (stands here))
    | inr away ↦ rw (denied, away) (leaf_version table low next key records isnt ends)
  ]
]
  where
    stands : ((r.table == table) && bytes_eq r.key key) ≡ true → is_of_leaf table low next r ≡ true
    stands here =
        let p = and_parts (r.table == table) (bytes_eq r.key key) here in
        let same : r.key ≡ key = same_key r.key key p.1 in
        and_from (r.table == table) (not (is_below r.key low) && ends_below next r.key) p.0
        (and_from (not (is_below r.key low)) (ends_below next r.key) (subst (λ (k : List ℕ). not (is_below k low) ≡ true) (sym same) (not_from_false (is_below key low) isnt)) (subst (λ (k : List ℕ). ends_below next k ≡ true) (sym same) ends))

-- ---- the record of a key

skipped : (table : ℕ) (key : List ℕ) (xs ys : List HistoryRecord) → AllByRecursion (λ (r : HistoryRecord). is_sooner table (Some key) r ≡ true) xs → record_at table key (xs ++ ys) ≡ record_at table key ys
skipped table key [] ys all = refl
skipped table key (r ∷ xs) ys all = rw (false_from_ne_true ((r.table == table) && bytes_eq r.key key) (λ here. by here (sooner_parts table (Some key) r all.0))) (skipped table key xs ys all.1)
  where
    by : ((r.table == table) && bytes_eq r.key key) ≡ true → (r.table < table) ⊎ ((r.table ≡ table) × (is_below r.key key ≡ true)) → ⊥
    by here (inl less) = let same = eqb-true r.table table (and_parts (r.table == table) (bytes_eq r.key key) here).0 in omega (arith, less, same)
    by here (inr there) = both_ways (bytes_eq r.key key) (below_differs r.key key there.1) (and_parts (r.table == table) (bytes_eq r.key key) here).1

-- behind one of a greater key there is none of this
none_behind : (table : ℕ) (key : List ℕ) (records : List HistoryRecord) → AllByRecursion (λ (r : HistoryRecord). is_sooner table (Some key) r ≡ false) records → ((r : HistoryRecord) (rest : List HistoryRecord) → records ≡ r ∷ rest → ((r.table == table) && bytes_eq r.key key) ≡ false) → KeysClimb records → record_at table key records ≡ None
none_behind table key [] all first climb = refl
none_behind table key (r ∷ records) all first climb =
    rw (first r records refl) (none_behind table key records all.1 (λ s rest same. false_from_ne_true ((s.table == table) && bytes_eq s.key key) (λ here. after s rest same here)) (climb_later r records climb))
  where
    after : (s : HistoryRecord) (rest : List HistoryRecord) → records ≡ s ∷ rest → ((s.table == table) && bytes_eq s.key key) ≡ true → ⊥
    after s rest same here =
        let p = and_parts (s.table == table) (bytes_eq s.key key) here in
        let less : key_cmp r s ≡ Less = (subst (λ (l : List HistoryRecord). KeysClimb (r ∷ l)) same climb).0 in
        by (eqb-true s.table table p.0) (same_key s.key key p.1) (less_keys r s less)
      where
        by : s.table ≡ table → s.key ≡ key → (r.table < s.table) ⊎ ((r.table ≡ s.table) × (is_below r.key s.key ≡ true)) → ⊥
        by tables keys (inl less) = both_ways (is_sooner table (Some key) r) all.0 (sooner_less table (Some key) r (omega (arith, less, tables)))
        by tables keys (inr there) = both_ways (is_sooner table (Some key) r) all.0 (sooner_own table (Some key) r (there.0 ∙ tables) (subst (λ (k : List ℕ). is_below r.key k ≡ true) keys there.1))

pub climb_drop : (records : List HistoryRecord) (n : ℕ) → KeysClimb records → KeysClimb (drop n records)
climb_drop records zero climb = climb
climb_drop [] (suc n) climb = tt
climb_drop (r ∷ records) (suc n) climb = climb_drop records n (climb_later r records climb)

module _ (table : ℕ) (key : List ℕ) (records : List HistoryRecord) (n : ℕ) (climb : KeysClimb records) (count : IsCountBefore table (Some key) records n) where
  behind : record_at table key records ≡ record_at table key (drop n records)
  behind = ap (record_at table key) (sym (take-append-drop n records)) ∙ skipped table key (take n records) (drop n records) count.sooner

  first_of : (r : HistoryRecord) → slice_get records n ≡ Some r → (rest : List HistoryRecord) × (drop n records ≡ r ∷ rest)
  first_of r is = here records n r is
    where
      here : (l : List HistoryRecord) (n : ℕ) (r : HistoryRecord) → slice_get l n ≡ Some r → (rest : List HistoryRecord) × (drop n l ≡ r ∷ rest)
      here [] n r is = absurd cc
      here (x ∷ l) zero r is = let same : x ≡ r = cc in (l, ap (λ (y : HistoryRecord). y ∷ l) same)
      here (x ∷ l) (suc n) r is = here l n r is

  pub record_here : (r : HistoryRecord) → slice_get records n ≡ Some r → r.table ≡ table → r.key ≡ key → record_at table key records ≡ Some r.version
  record_here r is tables keys =
      let first = first_of r is in
      behind ∙ ap (record_at table key) first.1
      ∙ rw (and_from (r.table == table) (bytes_eq r.key key) (eq-eqb r.table table tables) (subst (λ (k : List ℕ). bytes_eq r.key k ≡ true) keys (key_self r.key))) refl

  pub record_away : (r : HistoryRecord) → slice_get records n ≡ Some r → ((r.table ≡ table) × (r.key ≡ key) → ⊥) → record_at table key records ≡ None
  record_away r is away =
      let first = first_of r is in
      behind ∙ none_behind table key (drop n records) count.others
      (λ s rest same. false_from_ne_true ((s.table == table) && bytes_eq s.key key) (λ here.
      let one : s ≡ r = one_first s r rest first.0 (sym same ∙ first.1) in
      let p = and_parts (s.table == table) (bytes_eq s.key key) here in
      away (subst (λ (x : HistoryRecord). (x.table ≡ table) × (x.key ≡ key)) one (eqb-true s.table table p.0, same_key s.key key p.1))))
      (climb_drop records n climb)
    where
      one_first : (s r : HistoryRecord) (xs ys : List HistoryRecord) → s ∷ xs ≡ r ∷ ys → s ≡ r
      one_first s r xs ys same = cc

  pub record_none : slice_get records n ≡ None → record_at table key records ≡ None
  record_none is = behind ∙ ap (record_at table key) (end records n is)
    where
      end : (l : List HistoryRecord) (n : ℕ) → slice_get l n ≡ None → drop n l ≡ []
      end [] zero is = refl
      end [] (suc n) is = refl
      end (x ∷ l) zero is = absurd cc
      end (x ∷ l) (suc n) is = end l n is

pub there_at : {A : Type 0} (xs : List A) (i : ℕ) (x : A) → i < length xs → x ≡ get_or xs i x → slice_get xs i ≡ Some x
there_at [] i x lt is = absurd (omega (arith, lt))
there_at (y ∷ xs) zero x lt is = ap Some (sym is)
there_at (y ∷ xs) (suc i) x lt is = there_at xs i x (omega (arith, lt)) is

pub none_at : {A : Type 0} (xs : List A) (i : ℕ) → length xs ≤ i → slice_get xs i ≡ None
none_at [] i le = refl
none_at (x ∷ xs) zero le = absurd (omega (arith, le))
none_at (x ∷ xs) (suc i) le = none_at xs i (omega (arith, le))
