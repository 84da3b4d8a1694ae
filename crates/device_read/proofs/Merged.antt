-- Rows with others among them.
use Rattle.std.proofs.Common.{◌≡◌, ◌⊎◌, ℕ, true, false, List, [], ◌∷◌, ◌++◌, Option, Some, None, refl, sym, ap, ap₂, subst, ◌∙◌, inl, inr}
use Rattle.std.specs.Prelude.{◌&&◌, bytes_eq}
use Rattle.std.specs.List.{AllByRecursion}
use Rattle.std.proofs.lemmas.Bool.{and_parts, cases_Bool, false_from_ne_true}
use Rattle.stamp.specs.Order.{is_before}
use Rattle.stamp.specs.declared.version.Version.{Version}
use Rattle.row_page.specs.Changes.{PageChange}
use Rattle.row_page.specs.Rows.{Row, Ascends, comes_after, is_below}
use Rattle.row_page.proofs.Ascending.{above_differs, all_above, below_self, below_trans, keys_part}
use Rattle.reconcile.proofs.Keyed.{key_self, same_key}
use Rattle.leaf_rows.specs.Rows.{version_at}
use Rattle.device_read.specs.Merging.{later_of, later_row, merged, rows_below, rows_from, rows_past}
use Rattle.device_read.proofs.Between.{back_none, front_none}
use Rattle.device_read.proofs.Lists.{all_both}

-- ---- the rows of both

pub parted : (key : List ℕ) (others : List Row) → rows_below key others ++ rows_from key others ≡ others
parted key [] = refl
parted key (r ∷ rows) = elim (cases_Bool (is_below r.0 key)) [
  | inl is ↦ rw is (ap (λ (l : List Row). r ∷ l) (parted key rows))
  | inr isnt ↦ rw isnt refl
]

pub later_key : (r : Row) (rows : List Row) → (later_row r rows).0 ≡ r.0
later_key r [] = refl
later_key r (s ∷ rows) = elim (cases_Bool (bytes_eq s.0 r.0 && is_before r.1.window.name s.1.window.name)) [
  | inl is ↦ rw is (same_key s.0 r.0 (and_parts (bytes_eq s.0 r.0) (is_before r.1.window.name s.1.window.name) is).0)
  | inr isnt ↦ rw isnt refl
]

all_below : (P : Row → Type 0) (key : List ℕ) (rows : List Row) → AllByRecursion P rows → AllByRecursion P (rows_below key rows)
all_below P key [] all = tt
all_below P key (r ∷ rows) all = elim (cases_Bool (is_below r.0 key)) [ inl is ↦ rw is (all.0, all_below P key rows all.1) | inr isnt ↦ rw isnt tt ]

all_from : (P : Row → Type 0) (key : List ℕ) (rows : List Row) → AllByRecursion P rows → AllByRecursion P (rows_from key rows)
all_from P key [] all = tt
all_from P key (r ∷ rows) all = elim (cases_Bool (is_below r.0 key)) [ inl is ↦ rw is (all_from P key rows all.1) | inr isnt ↦ rw isnt all ]

all_past : (P : Row → Type 0) (key : List ℕ) (rows : List Row) → AllByRecursion P rows → AllByRecursion P (rows_past key rows)
all_past P key [] all = tt
all_past P key (r ∷ rows) all = elim (cases_Bool (bytes_eq r.0 key)) [ inl is ↦ rw is all.1 | inr isnt ↦ rw isnt all ]

all_later : (P : Row → Type 0) (r : Row) (rows : List Row) → P r → AllByRecursion P rows → P (later_row r rows)
all_later P r [] here all = here
all_later P r (s ∷ rows) here all = elim (cases_Bool (bytes_eq s.0 r.0 && is_before r.1.window.name s.1.window.name)) [ inl is ↦ rw is all.0 | inr isnt ↦ rw isnt here ]

-- what holds of the rows of both holds of all
pub all_merged : (P : Row → Type 0) (rows others : List Row) → AllByRecursion P rows → AllByRecursion P others → AllByRecursion P (merged rows others)
all_merged P [] others all also = also
all_merged P (r ∷ rows) others all also =
    let from : AllByRecursion P (rows_from r.0 others) = all_from P r.0 others also in
    all_both P (rows_below r.0 others) (later_row r (rows_from r.0 others) ∷ merged rows (rows_past r.0 (rows_from r.0 others))) (all_below P r.0 others also)
    (all_later P r (rows_from r.0 others) all.0 from, all_merged P rows (rows_past r.0 (rows_from r.0 others)) all.1 (all_past P r.0 (rows_from r.0 others) from))

-- ---- in the order of their keys

-- those below a key, that key, and more behind it
ascends_on : (before : Option (List ℕ)) (key : List ℕ) (others : List Row) (y : Row) (more : List Row) → Ascends before others → y.0 ≡ key → comes_after before key ≡ true → Ascends (Some key) more → Ascends before (rows_below key others ++ y ∷ more)
ascends_on before key [] y more up is comes behind = (ap (comes_after before) is ∙ comes, subst (λ (k : List ℕ). Ascends (Some k) more) (sym is) behind)
ascends_on before key (r ∷ rows) y more up is comes behind = elim (cases_Bool (is_below r.0 key)) [
  | inl below ↦ rw below (up.0, ascends_on (Some r.0) key rows y more up.1 is below behind)
  | inr isnt ↦ rw isnt (ap (comes_after before) is ∙ comes, subst (λ (k : List ℕ). Ascends (Some k) more) (sym is) behind)
]

past_ascends : (before : Option (List ℕ)) (key : List ℕ) (others : List Row) → Ascends before others → Ascends (Some key) (rows_past key (rows_from key others))
past_ascends before key [] up = tt
past_ascends before key (r ∷ rows) up = elim (cases_Bool (is_below r.0 key)) [
  | inl below ↦ rw below (past_ascends (Some r.0) key rows up.1)
  | inr isnt ↦ rw isnt (elim (cases_Bool (bytes_eq r.0 key)) [
    | inl same ↦ rw same (subst (λ (k : List ℕ). Ascends (Some k) rows) (same_key r.0 key same) up.1)
    | inr other ↦ rw other (keys_part r.0 key isnt other, up.1)
  ])
]

pub merged_ascends : (before : Option (List ℕ)) (rows others : List Row) → Ascends before rows → Ascends before others → Ascends before (merged rows others)
merged_ascends before [] others up also = also
merged_ascends before (r ∷ rows) others up also =
    ascends_on before r.0 others (later_row r (rows_from r.0 others)) (merged rows (rows_past r.0 (rows_from r.0 others))) also (later_key r (rows_from r.0 others)) up.0
    (merged_ascends (Some r.0) rows (rows_past r.0 (rows_from r.0 others)) up.1 (past_ascends before r.0 others also))

-- ---- what they say of a key

abbrev Found : Type 0
Found = Option (Version PageChange)

here_at : (key : List ℕ) (y : Row) (more : List Row) → y.0 ≡ key → version_at key (y ∷ more) ≡ Some y.1
here_at key y more is = rw (ap (λ (k : List ℕ). bytes_eq k key) is ∙ key_self key) refl

below_none : (key k : List ℕ) (others : List Row) → is_below key k ≡ false → version_at key (rows_below k others) ≡ None
below_none key k [] denied = refl
below_none key k (r ∷ rows) denied = elim (cases_Bool (is_below r.0 k)) [
  | inl below ↦ rw below (by_key below (cases_Bool (bytes_eq r.0 key)) (below_none key k rows denied))
  | inr isnt ↦ rw isnt refl
]
  where
    by_key : is_below r.0 k ≡ true → (bytes_eq r.0 key ≡ true) ⊎ (bytes_eq r.0 key ≡ false) → version_at key (rows_below k rows) ≡ None → version_at key (r ∷ rows_below k rows) ≡ None
    by_key below (inl same) rest = let gone : true ≡ false = sym (subst (λ (x : List ℕ). is_below x k ≡ true) (same_key r.0 key same) below) ∙ denied in absurd cc
    by_key below (inr other) rest = rw other rest

above_none : (key k : List ℕ) (rows : List Row) → is_below key k ≡ true → AllByRecursion (λ (r : Row). is_below k r.0 ≡ true) rows → version_at key rows ≡ None
above_none key k [] below all = refl
above_none key k (r ∷ rows) below all = rw (above_differs r.0 key (below_trans key k r.0 below all.0)) (above_none key k rows below all.1)

all_none : (key : List ℕ) (rows : List Row) → AllByRecursion (λ (r : Row). is_below key r.0 ≡ true) rows → version_at key rows ≡ None
all_none key [] all = refl
all_none key (r ∷ rows) all = rw (above_differs r.0 key all.0) (all_none key rows all.1)

further : (x y : List ℕ) (l : List Row) → is_below x y ≡ true → AllByRecursion (λ (r : Row). is_below y r.0 ≡ true) l → AllByRecursion (λ (r : Row). is_below x r.0 ≡ true) l
further x y [] below all = tt
further x y (r ∷ l) below all = (below_trans x y r.0 below all.0, further x y l below all.1)

-- of the key itself
from_here : (before : Option (List ℕ)) (r : Row) (others : List Row) → Ascends before others → Some (later_row r (rows_from r.0 others)).1 ≡ later_of (Some r.1) (version_at r.0 (rows_from r.0 others))
from_here before r [] up = refl
from_here before r (s ∷ rows) up = elim (cases_Bool (is_below s.0 r.0)) [
  | inl below ↦ rw below (from_here (Some s.0) r rows up.1)
  | inr isnt ↦ rw isnt (elim (cases_Bool (bytes_eq s.0 r.0)) [
    | inl same ↦ rw same (elim (cases_Bool (is_before r.1.window.name s.1.window.name)) [ inl is ↦ rw is refl | inr denied ↦ rw denied refl ])
    | inr other ↦ rw (other, all_none r.0 rows (further r.0 s.0 rows (keys_part s.0 r.0 isnt other) (all_above s.0 rows up.1))) refl
  ])
]

-- of another key
past_other : (key k : List ℕ) (rows : List Row) → bytes_eq k key ≡ false → version_at key (rows_past k rows) ≡ version_at key rows
past_other key k [] apart = refl
past_other key k (r ∷ rows) apart = elim (cases_Bool (bytes_eq r.0 k)) [
  | inl same ↦ rw (same, subst (λ (x : List ℕ). bytes_eq x key ≡ false) (sym (same_key r.0 k same)) apart) refl
  | inr other ↦ rw other refl
]

-- none of those below it is of the key
from_others : (key k : List ℕ) (others : List Row) → is_below key k ≡ false → version_at key others ≡ version_at key (rows_from k others)
from_others key k others denied = ap (version_at key) (sym (parted k others)) ∙ front_none key (rows_below k others) (rows_from k others) (below_none key k others denied)

-- the row at the front is of another key
not_here : (key : List ℕ) (y : Row) (k : List ℕ) (more : List Row) → y.0 ≡ k → bytes_eq k key ≡ false → version_at key (y ∷ more) ≡ version_at key more
not_here key y k more is apart = rw (ap (λ (x : List ℕ). bytes_eq x key) is ∙ apart) refl

at_itself : (before : Option (List ℕ)) (r : Row) (rows others more : List Row) → Ascends before others
    → version_at r.0 (rows_below r.0 others ++ later_row r (rows_from r.0 others) ∷ more) ≡ later_of (version_at r.0 (r ∷ rows)) (version_at r.0 others)
at_itself before r rows others more up =
    let denied : is_below r.0 r.0 ≡ false = false_from_ne_true (is_below r.0 r.0) (below_self r.0) in
    front_none r.0 (rows_below r.0 others) (later_row r (rows_from r.0 others) ∷ more) (below_none r.0 r.0 others denied)
    ∙ here_at r.0 (later_row r (rows_from r.0 others)) more (later_key r (rows_from r.0 others))
    ∙ from_here before r others up
    ∙ ap₂ (λ (o p : Found). later_of o p) (sym (here_at r.0 r rows refl)) (sym (from_others r.0 r.0 others denied))

-- where the key is below the row's
before_it : (before : Option (List ℕ)) (key : List ℕ) (r : Row) (rows others more : List Row) → Ascends (Some r.0) rows → Ascends before others → bytes_eq r.0 key ≡ false → is_below key r.0 ≡ true
    → version_at key more ≡ later_of (version_at key rows) (version_at key (rows_past r.0 (rows_from r.0 others)))
    → version_at key (rows_below r.0 others ++ later_row r (rows_from r.0 others) ∷ more) ≡ later_of (version_at key (r ∷ rows)) (version_at key others)
before_it before key r rows others more up too apart below inner =
    let low : List Row = rows_below r.0 others in
    let from : List Row = rows_from r.0 others in
    let y : Row = later_row r from in
    let rest : List Row = rows_past r.0 from in
    let none_own : version_at key rows ≡ None = above_none key r.0 rows below (all_above r.0 rows up) in
    let none_rest : version_at key rest ≡ None = above_none key r.0 rest below (all_above r.0 rest (past_ascends before r.0 others too)) in
    let none_more : version_at key more ≡ None = inner ∙ ap₂ (λ (o p : Found). later_of o p) none_own none_rest in
    let none_from : version_at key from ≡ None = sym (past_other key r.0 from apart) ∙ none_rest in
    back_none key low (y ∷ more) (not_here key y r.0 more (later_key r from) apart ∙ none_more)
    ∙ sym (back_none key low from none_from)
    ∙ ap (version_at key) (parted r.0 others)
    ∙ ap (λ (o : Found). later_of o (version_at key others)) (sym (not_here key r r.0 rows refl apart ∙ none_own))

-- where it is above it
behind_it : (key : List ℕ) (r : Row) (rows others more : List Row) → bytes_eq r.0 key ≡ false → is_below key r.0 ≡ false
    → version_at key more ≡ later_of (version_at key rows) (version_at key (rows_past r.0 (rows_from r.0 others)))
    → version_at key (rows_below r.0 others ++ later_row r (rows_from r.0 others) ∷ more) ≡ later_of (version_at key (r ∷ rows)) (version_at key others)
behind_it key r rows others more apart isnt inner =
    let from : List Row = rows_from r.0 others in
    let y : Row = later_row r from in
    front_none key (rows_below r.0 others) (y ∷ more) (below_none key r.0 others isnt)
    ∙ not_here key y r.0 more (later_key r from) apart
    ∙ inner
    ∙ ap₂ (λ (o p : Found). later_of o p) (sym (not_here key r r.0 rows refl apart)) (past_other key r.0 from apart ∙ sym (from_others key r.0 others isnt))

pub merged_version : (before also : Option (List ℕ)) (key : List ℕ) (rows others : List Row) → Ascends before rows → Ascends also others → version_at key (merged rows others) ≡ later_of (version_at key rows) (version_at key others)
merged_version before also key [] others up too = refl
merged_version before also key (r ∷ rows) others up too =
    let rest : List Row = rows_past r.0 (rows_from r.0 others) in
    let more : List Row = merged rows rest in
    let inner : version_at key more ≡ later_of (version_at key rows) (version_at key rest) = merged_version (Some r.0) (Some r.0) key rows rest up.1 (past_ascends also r.0 others too) in
    elim (cases_Bool (bytes_eq r.0 key)) [
      | inl same ↦ subst (λ (k : List ℕ). version_at k (rows_below r.0 others ++ later_row r (rows_from r.0 others) ∷ more) ≡ later_of (version_at k (r ∷ rows)) (version_at k others)) (same_key r.0 key same) (at_itself also r rows others more too)
      | inr apart ↦ elim (cases_Bool (is_below key r.0)) [
        | inl below ↦ before_it also key r rows others more up.1 too apart below inner
        | inr isnt ↦ behind_it key r rows others more apart isnt inner
      ]
    ]
