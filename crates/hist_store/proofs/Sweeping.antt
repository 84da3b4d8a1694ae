-- Versions that are cut below the newest one that is past, and look-ups among them.
use Rattle.std.proofs.Common.{◌≡◌, ◌⊎◌, refl, Bool, true, List, [], ◌∷◌, inl, inr}
use Rattle.std.specs.Prelude.{find, Option, Some, None}
use Rattle.std.proofs.lemmas.Bool.{cases_Bool}
use Rattle.item.specs.declared.Change.{Change}
use Rattle.stamp.specs.declared.Version.{Version}
use Rattle.kv_model.specs.Holds.{Member, Descends, Picks}
use Rattle.kv_model.specs.History.{down_to}
use Rattle.kv_model.specs.Ordered.{Older}
use Rattle.kv_model.specs.StoreLaws.{Held}
use Rattle.kv_model.proofs.Newest.{find-member, find-none, find-newest}
use Rattle.hist_store.specs.Versions.{is_admitted, is_of, is_past}
use Rattle.hist_store.specs.Laws.{FirstIsNewest, SweepsChange, SweepsDescend, SweepsSweep}

down-within : {A : Type 0} (p : A → Bool) (l : List A) (x : A) → Member x (down_to p l) → Member x l
down-within p [] x at = at
down-within p (y ∷ l) x at = elim (cases_Bool (p y)) [
  | inl is ↦ elim (rw is at at) [ inl e ↦ inl e | inr none ↦ absurd none ]
  | inr isnt ↦ elim (rw isnt at at) [ inl e ↦ inl e | inr deep ↦ inr (down-within p l x deep) ]
]

-- what is cut off is below one that passes
down-lost : {A : Type 0} (Below : A → A → Type 0) (p : A → Bool) (l : List A) (x : A) → Descends Below l → Member x l → Member x (down_to p l) ⊎ ((c : A) × Member c l × Below x c × (p c ≡ true))
down-lost Below p [] x d at = absurd at
down-lost Below p (y ∷ l) x d at = elim (cases_Bool (p y)) [
  | inl is ↦ rw is (elim at [ inl e ↦ inl (inl e) | inr deep ↦ inr (y, inl refl, d.0 x deep, is) ])
  | inr isnt ↦ rw isnt (elim at [
    | inl e ↦ inl (inl e)
    | inr deep ↦ elim (down-lost Below p l x d.1 deep) [ inl stays ↦ inl (inr stays) | inr c ↦ inr (c.0, inr c.1, c.2, c.3) ]
  ])
]

down-descends : {A : Type 0} (Below : A → A → Type 0) (p : A → Bool) (l : List A) → Descends Below l → Descends Below (down_to p l)
down-descends Below p [] d = d
down-descends Below p (x ∷ l) d = elim (cases_Bool (p x)) [
  | inl is ↦ rw is ((λ y at. absurd at), tt)
  | inr isnt ↦ rw isnt ((λ y at. d.0 y (down-within p l y at)), down-descends Below p l d.1)
]

pub sweeps-sweep : SweepsSweep
sweeps-sweep pin floor l d = record {
  fewer = λ v at. down-within (is_past pin floor) l v at;
  lost = λ v at. down-lost Older (is_past pin floor) l v d at;
}

pub sweeps-descend : SweepsDescend
sweeps-descend pin floor l d = down-descends Older (is_past pin floor) l d

pub sweeps-change : SweepsChange
sweeps-change table key pin floor [] = refl
sweeps-change table key pin floor (h ∷ slots) = elim (cases_Bool (is_of table key h)) [
  | inl is ↦ rw is refl
  | inr isnt ↦ rw isnt (sweeps-change table key pin floor slots)
]

pub first-is-newest : FirstIsNewest
first-is-newest view l d = by (find (is_admitted view) l) refl where
  by : (o : Option (Version Change)) → find (is_admitted view) l ≡ o → Picks Older (Held l) (is_admitted view) o
  by None e = λ v at is. find-none (is_admitted view) l e v at is
  by (Some v) e =
      let found = find-member (is_admitted view) l v e in
      record { held = found.0; passes = found.1; newest = λ w at is. find-newest Older (is_admitted view) l v d e w at is }
