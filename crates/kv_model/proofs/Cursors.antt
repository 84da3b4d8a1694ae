-- The cursors of sessions after one of them changed.
use Rattle.std.proofs.Common.{◌≡◌, ◌⊎◌, ◌<◌, ◌≤◌, ℕ, refl, ap, sym, ◌∙◌, List, [], ◌∷◌, ◌++◌, length, inl, inr, subst, arith, zero, suc, length-append}
use Rattle.std.specs.Prelude.{Option, Some, None, slice_index_or, slice_set, nat_lt}
use Rattle.std.proofs.lemmas.Bool.{cases_eq, cases_Bool, both_ways, ltb-true, lt-ltb}
use Rattle.std.proofs.lemmas.List.{get_or-set_same, get_or-set_other, length-set}
use Rattle.kv_model.specs.Machine.{Transaction, Position, no_cursors}
use Rattle.kv_model.specs.Valid.{ValidCursors}

none-positioned : (cursor : ℕ) → slice_index_or no_cursors cursor None ≡ None
none-positioned zero = refl
none-positioned (suc zero) = refl
none-positioned (suc (suc zero)) = refl
none-positioned (suc (suc (suc zero))) = refl
none-positioned (suc (suc (suc (suc cursor)))) = refl

-- a session has a transaction
pub cursors-taken : (sessions : List (Option Transaction)) (cursors : List (List (Option Position))) (s : ℕ) (t : Transaction) → s < length sessions → ValidCursors sessions cursors → ValidCursors (slice_set sessions s (Some t)) cursors
cursors-taken sessions cursors s t inside v = record {
  seats = v.seats ∙ sym (length-set sessions s (Some t));
  all = v.all;
  reset = λ r cursor none. elim (cases_eq r s) [
    | inl same ↦ let some = get_or-set_same sessions s (Some t) None inside in let gone = subst (λ (i : ℕ). slice_index_or (slice_set sessions s (Some t)) i None ≡ None) same none in absurd (cc)
    | inr other ↦ v.reset r cursor (sym (get_or-set_other sessions s r (Some t) None other) ∙ none)
  ];
}

-- a session has none any more
pub cursors-left : (sessions : List (Option Transaction)) (cursors : List (List (Option Position))) (s : ℕ) → s < length sessions → ValidCursors sessions cursors → ValidCursors (slice_set sessions s None) (slice_set cursors s no_cursors)
cursors-left sessions cursors s inside v = record {
  seats = length-set cursors s no_cursors ∙ (v.seats ∙ sym (length-set sessions s None));
  all = λ r lt. elim (cases_eq r s) [
    | inl same ↦ ap length (ap (λ (i : ℕ). slice_index_or (slice_set cursors s no_cursors) i []) same ∙ at)
    | inr other ↦ ap length (get_or-set_other cursors s r no_cursors [] other) ∙ v.all r (let e = length-set cursors s no_cursors in omega arith)
  ];
  reset = λ r cursor none. elim (cases_eq r s) [
    | inl same ↦ ap (λ (l : List (Option Position)). slice_index_or l cursor None) (ap (λ (i : ℕ). slice_index_or (slice_set cursors s no_cursors) i []) same ∙ at) ∙ none-positioned cursor
    | inr other ↦ ap (λ (l : List (Option Position)). slice_index_or l cursor None) (get_or-set_other cursors s r no_cursors [] other) ∙ v.reset r cursor (sym (get_or-set_other sessions s r None None other) ∙ none)
  ];
} where
  at : slice_index_or (slice_set cursors s no_cursors) s [] ≡ no_cursors
  at = get_or-set_same cursors s no_cursors [] (let e = v.seats in omega arith)

-- a cursor of a session that has a transaction is placed
pub cursors-placed : (sessions : List (Option Transaction)) (cursors : List (List (Option Position))) (s cursor : ℕ) (t : Transaction) (position : Option Position) → slice_index_or sessions s None ≡ Some t → s < length sessions → ValidCursors sessions cursors
    → ValidCursors sessions (slice_set cursors s (slice_set (slice_index_or cursors s []) cursor position))
cursors-placed sessions cursors s cursor t position there inside v = record {
  seats = length-set cursors s now ∙ v.seats;
  all = λ r lt. elim (cases_eq r s) [
    | inl same ↦ ap length (ap (λ (i : ℕ). slice_index_or (slice_set cursors s now) i []) same ∙ get_or-set_same cursors s now [] low) ∙ (length-set (slice_index_or cursors s []) cursor position ∙ v.all s low)
    | inr other ↦ ap length (get_or-set_other cursors s r now [] other) ∙ v.all r (let e = length-set cursors s now in omega arith)
  ];
  reset = λ r at none. elim (cases_eq r s) [
    | inl same ↦ let gone = subst (λ (i : ℕ). slice_index_or sessions i None ≡ None) same none in absurd (cc)
    | inr other ↦ ap (λ (l : List (Option Position)). slice_index_or l at None) (get_or-set_other cursors s r now [] other) ∙ v.reset r at none
  ];
} where
  now : List (Option Position)
  now = slice_set (slice_index_or cursors s []) cursor position

  low : s < length cursors
  low = let e = v.seats in omega arith

-- one more seat: the old ones, and the new one
seat-more : {A : Type 0} (xs : List A) (x d : A) (s : ℕ) → s < length xs → slice_index_or (xs ++ x ∷ []) s d ≡ slice_index_or xs s d
seat-more [] x d s lt = absurd (omega arith)
seat-more (y ∷ ys) x d zero lt = refl
seat-more (y ∷ ys) x d (suc s) lt = seat-more ys x d s (omega arith)

seat-last : {A : Type 0} (xs : List A) (x d : A) (s : ℕ) → s ≡ length xs → slice_index_or (xs ++ x ∷ []) s d ≡ x
seat-last [] x d zero e = refl
seat-last [] x d (suc s) e = absurd (omega arith)
seat-last (y ∷ ys) x d zero e = absurd (omega arith)
seat-last (y ∷ ys) x d (suc s) e = seat-last ys x d s (omega arith)

seat-past : {A : Type 0} (xs : List A) (d : A) (s : ℕ) → length xs ≤ s → slice_index_or xs s d ≡ d
seat-past [] d s le = refl
seat-past (x ∷ xs) d zero le = absurd (omega arith)
seat-past (x ∷ xs) d (suc s) le = seat-past xs d s (omega arith)

-- a session more, without a transaction
pub cursors-opened : (sessions : List (Option Transaction)) (cursors : List (List (Option Position))) → ValidCursors sessions cursors → ValidCursors (sessions ++ None ∷ []) (cursors ++ no_cursors ∷ [])
cursors-opened sessions cursors v = record {
  seats = let a = length-append cursors (no_cursors ∷ []) in let b = length-append sessions (None ∷ []) in let c = v.seats in omega arith;
  all = λ r lt. elim (nat-split r (length cursors)) [
    | inl low ↦ ap length (seat-more cursors no_cursors [] r low) ∙ v.all r low
    | inr high ↦ ap length (seat-last cursors no_cursors [] r (let a = length-append cursors (no_cursors ∷ []) in omega arith))
  ];
  reset = λ r cursor none. elim (nat-split r (length cursors)) [
    | inl low ↦ ap (λ (l : List (Option Position)). slice_index_or l cursor None) (seat-more cursors no_cursors [] r low) ∙ v.reset r cursor (sym (seat-more sessions None None r (let e = v.seats in omega arith)) ∙ none)
    | inr high ↦ elim (cases_eq r (length cursors)) [
      | inl same ↦ ap (λ (l : List (Option Position)). slice_index_or l cursor None) (seat-last cursors no_cursors [] r same) ∙ none-positioned cursor
      | inr other ↦ ap (λ (l : List (Option Position)). slice_index_or l cursor None) (seat-past (cursors ++ no_cursors ∷ []) [] r (let a = length-append cursors (no_cursors ∷ []) in omega arith))
    ]
  ];
} where
  nat-split : (x y : ℕ) → (x < y) ⊎ (y ≤ x)
  nat-split x y = elim (cases_Bool (nat_lt x y)) [ inl is ↦ inl (ltb-true x y is) | inr isnt ↦ inr (le (λ l. both_ways (nat_lt x y) isnt (lt-ltb x y l))) ] where
    le : (x < y → ⊥) → y ≤ x
    le f = omega (arith, f)
