-- Versions that stand in a frame and in the history.
use Rattle.std.proofs.Common.{◌≡◌, ◌⊎◌, refl, ap, sym, ◌∙◌, Bool, true, List, [], ◌∷◌, inl, inr, subst}
use Rattle.std.specs.Prelude.{find, Option, Some, None, filter}
use Rattle.std.proofs.lemmas.Bool.{cases_Bool}
use Rattle.kv_model.specs.Holds.{Member, Descends, IsNewest, Picks, Covered, IsOrder, Stores}
use Rattle.kv_model.proofs.Newest.{find-member, find-none, find-newest, picks-kept}

-- what the frame finds is the answer
pub frame-finds : {A : Type 0} (Below : A → A → Type 0) (covers p : A → Bool) (l : List A) (Frame History : A → Type 0)
    → IsOrder Below → ((x : A) → covers x ≡ true → p x ≡ true) → Descends Below l → Stores Below covers l Frame History
    → (x : A) → IsNewest Below Frame p x → find p l ≡ Some x
frame-finds {A} Below covers p l Frame History order shows d s x newest = go (find p l) refl where
  there : Member x l
  there = s.kept.within x (inl newest.held)

  same : (g : A) → find p l ≡ Some g → Some g ≡ Some x
  same g e = elim (find-newest Below p l g d e x there newest.passes) [
    | inl is ↦ ap Some (sym is)
    | inr below ↦ elim (s.upper x g newest.held (find-member p l g e).0 below) [
      | inl held ↦ elim (newest.newest g held (find-member p l g e).1) [ inl is ↦ ap Some is | inr above ↦ absurd (order.asym x g below above) ]
      | inr c ↦ elim (find-newest Below p l g d e c.by c.there (shows c.by c.is_cover)) [
        | inl is ↦ absurd (order.irrefl g (subst (λ v. Below g v) is c.above))
        | inr again ↦ absurd (order.asym c.by g again c.above)
      ]
    ]
  ]

  go : (o : Option A) → find p l ≡ o → find p l ≡ Some x
  go None e = absurd (find-none p l e x there newest.passes)
  go (Some g) e = e ∙ same g e

-- where the frame finds none, what the history finds is the answer
pub history-finds : {A : Type 0} (Below : A → A → Type 0) (covers p : A → Bool) (l : List A) (Frame History : A → Type 0)
    → IsOrder Below → ((x : A) → covers x ≡ true → p x ≡ true) → Descends Below l → Stores Below covers l Frame History
    → Picks Below Frame p None → (r : Option A) → Picks Below History p r → find p l ≡ r
history-finds {A} Below covers p l Frame History order shows d s none r picks =
    picks-kept Below covers p l (λ x. Frame x ⊎ History x) order.asym order.irrefl shows d s.kept r (either r picks) where
      either : (r : Option A) → Picks Below History p r → Picks Below (λ x. Frame x ⊎ History x) p r
      either None nothing = λ x held t. elim held [ inl f ↦ none x f t | inr h ↦ nothing x h t ]
      either (Some x) newest = record {
        held = inr newest.held;
        passes = newest.passes;
        newest = λ y held t. elim held [ inl f ↦ absurd (none y f t) | inr h ↦ newest.newest y h t ];
      }

-- an eviction leaves the newest in the frame, moves the others, and may drop what one of the frame's covers
pub stores-evict : {A : Type 0} (Below : A → A → Type 0) (covers : A → Bool) (l : List A) (Frame History Frame' History' : A → Type 0)
    → Stores Below covers l Frame History
    → ((x : A) → Frame' x → Frame x) → ((x : A) → History' x → History x ⊎ Frame x) → ((x : A) → History x → History' x)
    → ((x : A) → Frame x → Frame' x ⊎ (History' x ⊎ Covered Below covers l x))
    → ((x y : A) → Frame' x → Frame y → Below x y → Frame' y)
    → Stores Below covers l Frame' History'
stores-evict Below covers l Frame History Frame' History' s fewer from more moved newest = record {
  kept = record {
    within = λ x held. elim held [ inl f ↦ s.kept.within x (inl (fewer x f)) | inr h ↦ elim (from x h) [ inl old ↦ s.kept.within x (inr old) | inr f ↦ s.kept.within x (inl f) ] ];
    all = λ x there. elim (s.kept.all x there) [
      | inl held ↦ elim held [
        | inl f ↦ elim (moved x f) [ inl f' ↦ inl (inl f') | inr rest ↦ elim rest [ inl h ↦ inl (inr h) | inr c ↦ inr (c.by, c.there, c.above, c.is_cover) ] ]
        | inr h ↦ inl (inr (more x h))
      ]
      | inr c ↦ inr c
    ];
  };
  upper = λ x y f there below. elim (s.upper x y (fewer x f) there below) [ inl held ↦ inl (newest x y f held below) | inr c ↦ inr c ];
}

-- a rollback to stable takes what it takes from the list out of both
pub stores-filter : {A : Type 0} (Below : A → A → Type 0) (covers keeps : A → Bool) (l : List A) (Frame History : A → Type 0)
    → ((x : A) → covers x ≡ true → keeps x ≡ true) → Stores Below covers l Frame History
    → Stores Below covers (filter keeps l) (λ x. Frame x × (keeps x ≡ true)) (λ x. History x × (keeps x ≡ true))
stores-filter {A} Below covers keeps l Frame History below s = record {
  kept = record {
    within = λ x held. elim held [ inl f ↦ into l x (s.kept.within x (inl f.0)) f.1 | inr h ↦ into l x (s.kept.within x (inr h.0)) h.1 ];
    all = λ x there. let old = out l x there in elim (s.kept.all x old.0) [
      | inl held ↦ elim held [ inl f ↦ inl (inl (f, old.1)) | inr h ↦ inl (inr (h, old.1)) ]
      | inr c ↦ inr (c.0, into l c.0 c.1 (below c.0 c.3), c.2, c.3)
    ];
  };
  upper = λ x y f there under. let old = out l y there in elim (s.upper x y f.0 old.0 under) [
    | inl held ↦ inl (held, old.1)
    | inr c ↦ inr (record { by = c.by; there = into l c.by c.there (below c.by c.is_cover); above = c.above; is_cover = c.is_cover })
  ];
} where
  into : (l : List A) (x : A) → Member x l → keeps x ≡ true → Member x (filter keeps l)
  into [] x there t = there
  into (y ∷ ys) x (inl is) t = rw (subst (λ v. keeps v ≡ true) is t) (inl is)
  into (y ∷ ys) x (inr there) t = elim (cases_Bool (keeps y)) [ inl k ↦ rw k (inr (into ys x there t)) | inr n ↦ rw n (into ys x there t) ]

  out : (l : List A) (x : A) → Member x (filter keeps l) → Member x l × (keeps x ≡ true)
  out [] x there = absurd there
  out (y ∷ ys) x there = elim (cases_Bool (keeps y)) [
    | inl k ↦ elim (rw k at there) [ inl is ↦ (inl is, subst (λ v. keeps v ≡ true) (sym is) k) | inr later ↦ let o = out ys x later in (inr o.0, o.1) ]
    | inr n ↦ let o = out ys x (rw n at there) in (inr o.0, o.1)
  ]
