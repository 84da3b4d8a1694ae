-- The cursors of a session as one of them changes.
use Rattle.std.proofs.Common.{◌≡◌, ◌⊎◌, ◌<◌, ℕ, zero, suc, refl, ap, Bool, true, false, List, [], ◌∷◌, length, inl, inr, subst, arith, map}
use Rattle.std.specs.Prelude.{Option, Some, None, filter, slice_set, if◌then◌else◌}
use Rattle.std.proofs.lemmas.Bool.{cases_Bool}
use Rattle.kv_model.specs.Machine.{Position}
use Rattle.call_steps.specs.declared.cursor.Cursor.{Cursor}
use Rattle.call_steps.specs.State.{changed_at, first_pinned, is_pinned, is_pinned_at, unpinned}
use Rattle.engine_world.specs.Stands.{position_in}

-- ---- where they stand

pub positions-set : (ks : List Cursor) (cursor : ℕ) (change : Cursor → Cursor) (position : Option Position) → ((k : Cursor) → position_in (change k) ≡ position)
    → map position_in (changed_at ks cursor change) ≡ slice_set (map position_in ks) cursor position
positions-set [] cursor change position to = refl
positions-set (k ∷ ks) zero change position to = ap (λ p. p ∷ map position_in ks) (to k)
positions-set (k ∷ ks) (suc n) change position to = ap (λ ps. position_in k ∷ ps) (positions-set ks n change position to)

pub positions-stay : (ks : List Cursor) (cursor : ℕ) (change : Cursor → Cursor) → ((k : Cursor) → position_in (change k) ≡ position_in k)
    → map position_in (changed_at ks cursor change) ≡ map position_in ks
positions-stay [] cursor change same = refl
positions-stay (k ∷ ks) zero change same = ap (λ p. p ∷ map position_in ks) (same k)
positions-stay (k ∷ ks) (suc n) change same = ap (λ ps. position_in k ∷ ps) (positions-stay ks n change same)

-- ---- which of them are pinned

pub fewer-pinned : (ks : List Cursor) (cursor : ℕ) → is_pinned_at ks cursor ≡ true → length (filter is_pinned (changed_at ks cursor unpinned)) < length (filter is_pinned ks)
fewer-pinned [] cursor pinned = let none : false ≡ true = pinned in absurd (cc)
fewer-pinned (k ∷ ks) zero pinned = rw pinned (omega arith)
fewer-pinned (k ∷ ks) (suc n) pinned = let fewer = fewer-pinned ks n pinned in elim (cases_Bool (is_pinned k)) [
  | inl is ↦ rw is (omega (arith, fewer))
  | inr isnt ↦ rw isnt fewer
]

first-or : (b : Bool) (n cursor : ℕ) (later : Option ℕ) → (if b then Some n else later) ≡ Some cursor → ((b ≡ true) × (n ≡ cursor)) ⊎ (later ≡ Some cursor)
first-or true n cursor later e = inl (refl, (let same : Some n ≡ Some cursor = e in cc))
first-or false n cursor later e = inr e

pub first-is-pinned : (ks : List Cursor) (cursor : ℕ) → first_pinned ks ≡ Some cursor → is_pinned_at ks cursor ≡ true
first-is-pinned ks cursor e = elim (first-or (is_pinned_at ks 0) 0 cursor from1 e) [
  | inl is ↦ subst Pinned is.1 is.0
  | inr e1 ↦ elim (first-or (is_pinned_at ks 1) 1 cursor from2 e1) [
    | inl is ↦ subst Pinned is.1 is.0
    | inr e2 ↦ elim (first-or (is_pinned_at ks 2) 2 cursor from3 e2) [
      | inl is ↦ subst Pinned is.1 is.0
      | inr e3 ↦ elim (first-or (is_pinned_at ks 3) 3 cursor None e3) [
        | inl is ↦ subst Pinned is.1 is.0
        | inr e4 ↦ let none : None ≡ Some cursor = e4 in absurd (cc)
      ]
    ]
  ]
] where
  Pinned : ℕ → Type 0
  Pinned i = is_pinned_at ks i ≡ true

  from3 : Option ℕ
  from3 = if is_pinned_at ks 3 then Some 3 else None

  from2 : Option ℕ
  from2 = if is_pinned_at ks 2 then Some 2 else from3

  from1 : Option ℕ
  from1 = if is_pinned_at ks 1 then Some 1 else from2
