-- Rows as a map from keys, and the versions of a key among those that they place.
use Rattle.std.proofs.Common.{◌≡◌, ℕ, Bool, true, false, List, [], ◌∷◌, Option, Some, None, refl, sym, ap, subst, ◌∙◌, inl, inr}
use Rattle.std.specs.Prelude.{bytes_eq, ◌==◌}
use Rattle.std.specs.Option.{option_to_list}
use Rattle.std.specs.List.{AllByRecursion}
use Rattle.std.proofs.lemmas.Bool.{cases_Bool, eqb-true, eq-eqb}
use Rattle.std.proofs.lemmas.Slice.Eq.{bytes_eq-Decides}
use Rattle.item.specs.declared.change.Change.{Change}
use Rattle.stamp.specs.declared.version.Version.{Version}
use Rattle.kv_model.specs.History.{Placed, of_key, is_at}
use Rattle.kv_model.specs.Content.{inserted, descending}
use Rattle.row_page.specs.Changes.{PageChange, version_in}
use Rattle.row_page.specs.Rows.{Row, is_below, Ascends}
use Rattle.stored.specs.Stored.{placed_in}
use Rattle.leaf_rows.specs.Rows.{version_at}
use Rattle.reconcile.specs.Shows.{shown_at}
use Rattle.row_page.proofs.Ascending.{keys_part, above_differs, all_above, below_trans}

pub key_self : (key : List ℕ) → bytes_eq key key ≡ true
key_self key = (bytes_eq-Decides key key).1 refl

pub same_key : (x y : List ℕ) → bytes_eq x y ≡ true → x ≡ y
same_key x y e = (bytes_eq-Decides x y).0 e

-- ---- look-ups

pub none_above : (key : List ℕ) (rows : List Row) → AllByRecursion (λ (r : Row). is_below key r.0 ≡ true) rows → version_at key rows ≡ None
none_above key [] all = refl
none_above key (r ∷ rows) all = rw (above_differs r.0 key all.0) (none_above key rows all.1)

-- rows that ascend and are found alike are the same
pub alike : (before prior : Option (List ℕ)) (rows others : List Row) → Ascends before rows → Ascends prior others → ((key : List ℕ) → version_at key rows ≡ version_at key others) → rows ≡ others
alike before prior [] [] up too same = refl
alike before prior [] (s ∷ others) up too same =
    let here : version_at s.0 (s ∷ others) ≡ Some s.1 = rw (key_self s.0) refl in
    let none : None ≡ Some s.1 = same s.0 ∙ here in absurd cc
alike before prior (r ∷ rows) [] up too same =
    let here : version_at r.0 (r ∷ rows) ≡ Some r.1 = rw (key_self r.0) refl in
    let none : Some r.1 ≡ None = sym here ∙ same r.0 in absurd cc
alike before prior (r ∷ rows) (s ∷ others) up too same = elim (cases_Bool (bytes_eq r.0 s.0)) [
  | inl is ↦ let first = same_key r.0 s.0 is in one first (alike (Some r.0) (Some s.0) rows others up.1 too.1 (rest first))
  | inr apart ↦ elim (cases_Bool (is_below r.0 s.0)) [
    | inl below ↦
        let here : version_at r.0 (r ∷ rows) ≡ Some r.1 = rw (key_self r.0) refl in
        let gone : version_at r.0 (s ∷ others) ≡ None = rw (above_differs s.0 r.0 below) (none_above r.0 others (later r.0 s.0 below others (all_above s.0 others too.1))) in
        let none : Some r.1 ≡ None = sym here ∙ (same r.0 ∙ gone) in absurd cc
    | inr above ↦
        let below = keys_part r.0 s.0 above apart in
        let here : version_at s.0 (s ∷ others) ≡ Some s.1 = rw (key_self s.0) refl in
        let gone : version_at s.0 (r ∷ rows) ≡ None = rw apart (none_above s.0 rows (later s.0 r.0 below rows (all_above r.0 rows up.1))) in
        let none : Some s.1 ≡ None = sym here ∙ (sym (same s.0) ∙ gone) in absurd cc
  ]
] where
  later : (x y : List ℕ) → is_below x y ≡ true → (l : List Row) → AllByRecursion (λ (q : Row). is_below y q.0 ≡ true) l → AllByRecursion (λ (q : Row). is_below x q.0 ≡ true) l
  later x y below [] all = tt
  later x y below (q ∷ l) all = (below_trans x y q.0 below all.0, later x y below l all.1)

  one : r.0 ≡ s.0 → rows ≡ others → r ∷ rows ≡ s ∷ others
  one key tails =
      let here : version_at r.0 (r ∷ rows) ≡ Some r.1 = rw (key_self r.0) refl in
      let there : version_at r.0 (s ∷ others) ≡ Some s.1 = rw (subst (λ (k : List ℕ). bytes_eq s.0 k ≡ true) (sym key) (key_self s.0)) refl in
      let both : Some r.1 ≡ Some s.1 = sym here ∙ (same r.0 ∙ there) in
      let version : r.1 ≡ s.1 = cc in
      ap (λ (k : List ℕ). (k, r.1) ∷ rows) key ∙ (ap (λ (v : Version PageChange). (s.0, v) ∷ rows) version ∙ ap (λ (l : List Row). s ∷ l) tails)

  rest : r.0 ≡ s.0 → (key : List ℕ) → version_at key rows ≡ version_at key others
  rest first key = elim (cases_Bool (bytes_eq r.0 key)) [
    | inl is ↦
        let k = same_key r.0 key is in
        none_above key rows (subst (λ (x : List ℕ). AllByRecursion (λ (q : Row). is_below x q.0 ≡ true) rows) k (all_above r.0 rows up.1))
        ∙ sym (none_above key others (subst (λ (x : List ℕ). AllByRecursion (λ (q : Row). is_below x q.0 ≡ true) others) (sym first ∙ k) (all_above s.0 others too.1)))
    | inr other ↦
        let mine : version_at key (r ∷ rows) ≡ version_at key rows = rw other refl in
        let theirs : version_at key (s ∷ others) ≡ version_at key others = rw (subst (λ (x : List ℕ). bytes_eq x key ≡ false) first other) refl in
        sym mine ∙ (same key ∙ theirs)
  ]

-- ---- what rows place

none_placed : (number : ℕ) (key : List ℕ) (rows : List Row) → AllByRecursion (λ (r : Row). is_below key r.0 ≡ true) rows → of_key number key (placed_in number rows) ≡ []
none_placed number key [] all = refl
none_placed number key (r ∷ rows) all = rw (eq-eqb number number refl, above_differs r.0 key all.0) (none_placed number key rows all.1)

-- the version of a key, or none
pub of_key_rows : (number : ℕ) (key : List ℕ) (before : Option (List ℕ)) (rows : List Row) → Ascends before rows → of_key number key (placed_in number rows) ≡ option_to_list (shown_at key rows)
of_key_rows number key before [] up = refl
of_key_rows number key before (r ∷ rows) up = elim (cases_Bool (bytes_eq r.0 key)) [
  | inl same ↦ rw (eq-eqb number number refl, same) (ap (λ (l : List (Version Change)). version_in r.1 ∷ l)
      (none_placed number key rows (subst (λ (k : List ℕ). AllByRecursion (λ (q : Row). is_below k q.0 ≡ true) rows) (same_key r.0 key same) (all_above r.0 rows up.1))))
  | inr other ↦ rw (eq-eqb number number refl, other) (of_key_rows number key (Some r.0) rows up.1)
]

-- of another table there is none
pub of_key_elsewhere : (number table : ℕ) (key : List ℕ) (rows : List Row) → (number == table) ≡ false → of_key table key (placed_in number rows) ≡ []
of_key_elsewhere number table key [] other = refl
of_key_elsewhere number table key (r ∷ rows) other = rw other (of_key_elsewhere number table key rows other)

-- at most one of each key
pub of_key_one : (number table : ℕ) (key : List ℕ) (rows : List Row) → Ascends None rows → (o : Option (Version Change)) × (of_key table key (placed_in number rows) ≡ option_to_list o)
of_key_one number table key rows up = elim (cases_Bool (number == table)) [
  | inl same ↦ (shown_at key rows, subst (λ (n : ℕ). of_key n key (placed_in number rows) ≡ option_to_list (shown_at key rows)) (eqb-true number table same) (of_key_rows number key None rows up))
  | inr other ↦ (None, of_key_elsewhere number table key rows other)
]

-- ---- sorting keeps the one version of a key

inserted_other : (lt : Placed → Placed → Bool) (table : ℕ) (key : List ℕ) (x : Placed) (l : List Placed) → is_at table key x ≡ false → of_key table key (inserted lt x l) ≡ of_key table key l
inserted_other lt table key x [] other = rw other refl
inserted_other lt table key x (y ∷ ys) other = elim (cases_Bool (lt y x)) [
  | inl is ↦ rw (is, other) refl
  | inr isnt ↦ rw isnt (elim (cases_Bool (is_at table key y)) [
    | inl at ↦ rw at (ap (λ (l : List (Version Change)). y.version ∷ l) (inserted_other lt table key x ys other))
    | inr away ↦ rw away (inserted_other lt table key x ys other)
  ])
]

inserted_here : (lt : Placed → Placed → Bool) (table : ℕ) (key : List ℕ) (x : Placed) (l : List Placed) → is_at table key x ≡ true → of_key table key l ≡ [] → of_key table key (inserted lt x l) ≡ x.version ∷ []
inserted_here lt table key x [] here none = rw here refl
inserted_here lt table key x (y ∷ ys) here none = elim (cases_Bool (lt y x)) [
  | inl is ↦ rw (is, here) (ap (λ (l : List (Version Change)). x.version ∷ l) none)
  | inr isnt ↦ rw isnt (elim (cases_Bool (is_at table key y)) [
    | inl at ↦ let some = rw at at none in absurd cc
    | inr away ↦ rw away (inserted_here lt table key x ys here (rw away at none))
  ])
]

pub of_key_descending : (lt : Placed → Placed → Bool) (table : ℕ) (key : List ℕ) (l : List Placed) (o : Option (Version Change)) → of_key table key l ≡ option_to_list o → of_key table key (descending lt l) ≡ option_to_list o
of_key_descending lt table key [] o is = is
of_key_descending lt table key (x ∷ xs) o is = elim (cases_Bool (is_at table key x)) [
  | inl here ↦ one here o (rw here at is) (of_key_descending lt table key xs None)
  | inr away ↦ inserted_other lt table key x (descending lt xs) away ∙ of_key_descending lt table key xs o (rw away at is)
] where
  one : is_at table key x ≡ true → (o : Option (Version Change)) → x.version ∷ of_key table key xs ≡ option_to_list o → (of_key table key xs ≡ [] → of_key table key (descending lt xs) ≡ []) → of_key table key (inserted lt x (descending lt xs)) ≡ option_to_list o
  one here None e sorted = absurd cc
  one here (Some v) e sorted =
      let first : x.version ≡ v = cc in
      let none : of_key table key xs ≡ [] = cc in
      inserted_here lt table key x (descending lt xs) here (sorted none) ∙ ap (λ (w : Version Change). w ∷ []) first
