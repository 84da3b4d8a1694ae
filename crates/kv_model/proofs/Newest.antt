-- A look-up among what is held finds what the whole list gives.
use Rattle.std.proofs.Common.{◌≡◌, ◌⊎◌, refl, ap, sym, ◌∙◌, Bool, true, List, [], ◌∷◌, inl, inr, subst}
use Rattle.std.specs.Prelude.{find, Option, Some, None}
use Rattle.std.proofs.lemmas.Bool.{cases_Bool, both_ways}
use Rattle.kv_model.specs.Holds.{Member, Descends, Kept, Picks}

pub find-member : {A : Type 0} (p : A → Bool) (l : List A) (x : A) → find p l ≡ Some x → Member x l × (p x ≡ true)
find-member p [] x e = absurd (cc)
find-member p (y ∷ ys) x e = elim (cases_Bool (p y)) [
  | inl is ↦ let found = rw is at e in let same : y ≡ x = cc in (inl (sym same), subst (λ z. p z ≡ true) same is)
  | inr isnt ↦ let later = find-member p ys x (rw isnt at e) in (inr later.0, later.1)
]

pub find-none : {A : Type 0} (p : A → Bool) (l : List A) → find p l ≡ None → (x : A) → Member x l → p x ≡ true → ⊥
find-none p [] e x here t = absurd here
find-none p (y ∷ ys) e x (inl same) t = let e2 = rw (subst (λ z. p z ≡ true) same t) at e in cc
find-none p (y ∷ ys) e x (inr there) t = elim (cases_Bool (p y)) [
  | inl is ↦ let e2 = rw is at e in absurd (cc)
  | inr isnt ↦ find-none p ys (rw isnt at e) x there t
]

pub find-newest : {A : Type 0} (Below : A → A → Type 0) (p : A → Bool) (l : List A) (x : A) → Descends Below l → find p l ≡ Some x → (y : A) → Member y l → p y ≡ true → (y ≡ x) ⊎ Below y x
find-newest Below p [] x d e y here t = absurd here
find-newest Below p (z ∷ zs) x d e y here t = elim (cases_Bool (p z)) [
  | inl is ↦ let found = rw is at e in let same : z ≡ x = cc in
      elim here [ inl h ↦ inl (h ∙ same) | inr h ↦ inr (subst (λ v. Below y v) same (d.0 y h)) ]
  | inr isnt ↦ elim here [ inl h ↦ absurd (both_ways (p z) isnt (subst (λ v. p v ≡ true) h t)) | inr h ↦ find-newest Below p zs x d.1 (rw isnt at e) y h t ]
]

-- a store that keeps all but what is covered answers as the whole list does
pub picks-kept : {A : Type 0} (Below : A → A → Type 0) (covers p : A → Bool) (l : List A) (Held : A → Type 0)
    → ((x y : A) → Below x y → Below y x → ⊥) → ((x : A) → Below x x → ⊥)
    → ((x : A) → covers x ≡ true → p x ≡ true)
    → Descends Below l → Kept Below covers l Held → (r : Option A) → Picks Below Held p r → find p l ≡ r
picks-kept {A} Below covers p l Held asym irrefl shows d k r picks = go (find p l) refl where
  held_newest : (x : A) → find p l ≡ Some x → Held x
  held_newest x e = elim (k.all x (find-member p l x e).0) [
    | inl h ↦ h
    | inr c ↦ elim (find-newest Below p l x d e c.0 c.1 (shows c.0 c.3)) [
      | inl same ↦ absurd (irrefl x (subst (λ v. Below x v) same c.2))
      | inr below ↦ absurd (asym c.0 x below c.2)
    ]
  ]

  same_as : (x : A) → find p l ≡ Some x → (r : Option A) → Picks Below Held p r → Some x ≡ r
  same_as x e None none = absurd (none x (held_newest x e) (find-member p l x e).1)
  same_as x e (Some y) newest = elim (newest.newest x (held_newest x e) (find-member p l x e).1) [
    | inl same ↦ ap Some same
    | inr below ↦ elim (find-newest Below p l x d e y (k.within y newest.held) newest.passes) [
      | inl same ↦ ap Some (sym same)
      | inr above ↦ absurd (asym x y below above)
    ]
  ]

  none_as : find p l ≡ None → (r : Option A) → Picks Below Held p r → None ≡ r
  none_as e None none = refl
  none_as e (Some y) newest = absurd (find-none p l e y (k.within y newest.held) newest.passes)

  go : (o : Option A) → find p l ≡ o → find p l ≡ r
  go None e = e ∙ none_as e r picks
  go (Some x) e = e ∙ same_as x e r picks
