-- What frame and history hold of a key while the engine runs, at an opening and at a rollback to stable.
use Rattle.std.proofs.Common.{◌≡◌, ◌⊎◌, refl, ap, sym, ◌∙◌, Bool, true, List, ◌∷◌, inl, inr, subst}
use Rattle.std.specs.Prelude.{Option, Some, None}
use Rattle.std.proofs.lemmas.Bool.{both_ways}
use Rattle.kv_model.specs.Holds.{Member, Descends, Picks, Covered, IsOrder, Stores}
use Rattle.kv_model.specs.Captures.{UpTo, Either, In, Layered, IsKeyLayered, IsKeyContent, Cleaned}

-- an eviction, a capture, a trim, a sweep: each is a move that loses only what is covered
pub stores-moves : {A : Type 0} (Below : A → A → Type 0) (covers : A → Bool) (l : List A) (Frame History Frame' History' : A → Type 0)
    → Stores Below covers l Frame History
    → ((x : A) → Frame' x → Frame x) → ((x : A) → History' x → Member x l)
    → ((x : A) → Either Frame History x → Either Frame' History' x ⊎ Covered Below covers l x)
    → ((x y : A) → Frame' x → Frame y → Below x y → Frame' y ⊎ Covered Below covers l y)
    → Stores Below covers l Frame' History'
stores-moves Below covers l Frame History Frame' History' s fewer from out newest = record {
  kept = record {
    within = λ x held. elim held [ inl f ↦ s.kept.within x (inl (fewer x f)) | inr h ↦ from x h ];
    all = λ x there. elim (s.kept.all x there) [
      | inl held ↦ elim (out x held) [ inl stays ↦ inl stays | inr c ↦ inr (c.by, c.there, c.above, c.is_cover) ]
      | inr c ↦ inr c
    ];
  };
  upper = λ x y f there below. elim (s.upper x y (fewer x f) there below) [ inl held ↦ newest x y f held below | inr c ↦ inr c ];
}

-- what covers goes on to cover
pub stores-covers : {A : Type 0} (Below : A → A → Type 0) (covers covers' : A → Bool) (l : List A) (Frame History : A → Type 0)
    → ((x : A) → Member x l → covers x ≡ true → covers' x ≡ true) → Stores Below covers l Frame History → Stores Below covers' l Frame History
stores-covers Below covers covers' l Frame History more s = record {
  kept = record {
    within = s.kept.within;
    all = λ x there. elim (s.kept.all x there) [ inl held ↦ inl held | inr c ↦ inr (c.0, c.1, c.2, more c.0 c.1 c.3) ];
  };
  upper = λ x y f there below. elim (s.upper x y f there below) [
    | inl held ↦ inl held
    | inr c ↦ inr (record { by = c.by; there = c.there; above = c.above; is_cover = more c.by c.there c.is_cover })
  ];
}

-- a commit
pub stores-commit : {A : Type 0} (Below : A → A → Type 0) (covers : A → Bool) (l : List A) (Frame History : A → Type 0) (v : A)
    → IsOrder Below → Descends Below (v ∷ l) → Stores Below covers l Frame History → Stores Below covers (v ∷ l) (Either Frame (λ x. x ≡ v)) History
stores-commit {A} Below covers l Frame History v order d s = record {
  kept = record {
    within = λ x held. elim held [ inl f ↦ elim f [ inl old ↦ inr (s.kept.within x (inl old)) | inr new ↦ inl new ] | inr h ↦ inr (s.kept.within x (inr h)) ];
    all = λ x there. elim there [
      | inl new ↦ inl (inl (inr new))
      | inr old ↦ elim (s.kept.all x old) [
        | inl held ↦ elim held [ inl f ↦ inl (inl (inl f)) | inr h ↦ inl (inr h) ]
        | inr c ↦ inr (c.0, inr c.1, c.2, c.3)
      ]
    ];
  };
  upper = λ x y f there below. elim there [
    | inl new ↦ inl (inr new)
    | inr old ↦ elim f [
      | inl held ↦ elim (s.upper x y held old below) [ inl h ↦ inl (inl h) | inr c ↦ inr (record { by = c.by; there = inr c.there; above = c.above; is_cover = c.is_cover }) ]
      | inr new ↦ absurd (order.asym x y below (subst (λ z. Below y z) (sym new) (d.0 y old)))
    ]
  ];
}

-- layered is kept where what lay above a record gives way to what lies above it too
pub layered-moves : {A : Type 0} (Below : A → A → Type 0) (ended ended' : A → Bool) (Frame History Frame' History' : A → Type 0)
    → ((x y z : A) → Below x y → Below y z → Below x z)
    → Layered Below ended Frame History
    → ((y : A) → Frame y → ended y ≡ true → (z : A) × Frame' z × (ended' z ≡ true) × UpTo Below y z)
    → ((x : A) → History' x → History x ⊎ ((y : A) × Frame y × (ended y ≡ true) × UpTo Below x y))
    → Layered Below ended' Frame' History'
layered-moves {A} Below ended ended' Frame History Frame' History' trans layered gives from = λ x h. elim (from x h) [
  | inl old ↦ let y = layered x old in over x y.0 y.1 y.2 y.3
  | inr y ↦ over x y.0 y.1 y.2 y.3
] where
  over : (x y : A) → Frame y → ended y ≡ true → UpTo Below x y → (z : A) × Frame' z × (ended' z ≡ true) × UpTo Below x z
  over x y f e (inl same) = let z = gives y f e in (z.0, z.1, z.2, subst (λ v. UpTo Below v z.0) (sym same) z.3)
  over x y f e (inr below) = let z = gives y f e in (z.0, z.1, z.2, elim z.3 [ inl same ↦ inr (subst (λ v. Below x v) same below) | inr above ↦ inr (trans x y z.0 below above) ])

-- an opening: what is kept of cell and history stands for the line of what is kept
pub opened-stands : {A : Type 0} (Below : A → A → Type 0) (covers keep : A → Bool) (l : List A) (cell : Option A) (History : A → Type 0)
    → IsOrder Below → IsKeyContent keep cell History l → IsKeyLayered Below keep cell History
    → Stores Below covers l (λ x. In cell x × (keep x ≡ true)) (λ x. History x × (keep x ≡ true))
opened-stands {A} Below covers keep l cell History order is layered = record {
  kept = record {
    within = λ x held. elim held [ inl f ↦ is.into x (inl f.0) f.1 | inr h ↦ is.into x (inr h.0) h.1 ];
    all = λ x there. let f = is.from x there in elim f.0 [ inl at ↦ inl (inl (at, f.1)) | inr h ↦ inl (inr (h, f.1)) ];
  };
  upper = λ x y f there below. let g = is.from y there in elim g.0 [
    | inl at ↦ let same : x ≡ y = some-same f.0 at in absurd (order.irrefl x (subst (λ v. Below x v) (sym same) below))
    | inr h ↦ let z = layered y h g.1 in let same : x ≡ z.0 = some-same f.0 z.1 in elim z.2 [
      | inl e ↦ absurd (order.irrefl x (subst (λ v. Below x v) (e ∙ sym same) below))
      | inr above ↦ absurd (order.asym x y below (subst (λ v. Below y v) (sym same) above))
    ]
  ];
} where
  some-same : {x y : A} → In cell x → In cell y → x ≡ y
  some-same e f = cc

-- a marked leaf is cleaned: a load, or the next checkpoint
pub cleaned-stands : {A : Type 0} (Below : A → A → Type 0) (covers keep ended : A → Bool) (l : List A) (cell new : Option A) (History : A → Type 0)
    → IsOrder Below → Stores Below covers l (λ x. In cell x × (keep x ≡ true)) History
    → IsKeyLayered Below keep cell History → ((x : A) → History x → keep x ≡ true) → ((x : A) → Member x l → ended x ≡ true)
    → Cleaned Below keep cell History new
    → Stores Below covers l (In new) History × Layered Below ended (In new) History
cleaned-stands {A} Below covers keep ended l None new History order s layered keeps done none = (
  record {
    kept = record {
      within = λ x held. elim held [ inl f ↦ absurd (nothing x f) | inr h ↦ s.kept.within x (inr h) ];
      all = λ x there. elim (s.kept.all x there) [ inl held ↦ elim held [ inl f ↦ let g : In None x = f.0 in absurd (cc) | inr h ↦ inl (inr h) ] | inr c ↦ inr c ];
    };
    upper = λ x y f there below. absurd (nothing x f);
  },
  λ x h. let y = layered x h (keeps x h) in let g : In None y.0 = y.1 in absurd (cc),
) where
  nothing : (x : A) → In new x → ⊥
  nothing x f = cc
cleaned-stands {A} Below covers keep ended (l) (Some v) new History order s layered keeps done (inl t) = (
  record {
    kept = record {
      within = λ x held. elim held [ inl f ↦ s.kept.within x (inl (old x f)) | inr h ↦ s.kept.within x (inr h) ];
      all = λ x there. elim (s.kept.all x there) [ inl held ↦ elim held [ inl f ↦ inl (inl (t.1 ∙ f.0)) | inr h ↦ inl (inr h) ] | inr c ↦ inr c ];
    };
    upper = λ x y f there below. elim (s.upper x y (old x f) there below) [ inl held ↦ inl (t.1 ∙ held.0) | inr c ↦ inr c ];
  },
  λ x h. let y = layered x h (keeps x h) in let same : v ≡ y.0 = cc in (v, t.1, done v (s.kept.within v (inl (refl, t.0))), subst (λ z. UpTo Below x z) (sym same) y.2),
) where
  old : (x : A) → In new x → In (Some v) x × (keep x ≡ true)
  old x f = let same : v ≡ x = cc in (ap Some same, subst (λ z. keep z ≡ true) same t.0)
cleaned-stands {A} Below covers keep ended l (Some v) new History order s layered keeps done (inr t) = (
  record {
    kept = record {
      within = λ x held. elim held [ inl f ↦ s.kept.within x (inr (held-by new t.1 x f)) | inr h ↦ s.kept.within x (inr h) ];
      all = λ x there. elim (s.kept.all x there) [
        | inl held ↦ elim held [ inl f ↦ let same : v ≡ x = cc in absurd (both_ways (keep v) t.0 (subst (λ z. keep z ≡ true) (sym same) f.1)) | inr h ↦ inl (inr h) ]
        | inr c ↦ inr c
      ];
    };
    upper = λ x y f there below. elim (s.kept.all y there) [
      | inl held ↦ elim held [
        | inl g ↦ let same : v ≡ y = cc in absurd (both_ways (keep v) t.0 (subst (λ z. keep z ≡ true) (sym same) g.1))
        | inr h ↦ elim (above new t.1 x f y h) [
          | inl same ↦ absurd (order.irrefl x (subst (λ z. Below x z) same below))
          | inr up ↦ absurd (order.asym x y below up)
        ]
      ]
      | inr c ↦ inr (record { by = c.0; there = c.1; above = c.2; is_cover = c.3 })
    ];
  },
  λ x h. picked new t.1 x h (λ g k. s.kept.within g (inr k)),
) where
  held-by : (n : Option A) → Picks Below History keep n → (x : A) → In n x → History x
  held-by None p x f = absurd (cc)
  held-by (Some g) p x f = let same : g ≡ x = cc in subst History same p.held

  above : (n : Option A) → Picks Below History keep n → (x : A) → In n x → (y : A) → History y → UpTo Below y x
  above None p x f y h = absurd (cc)
  above (Some g) p x f y h = let same : g ≡ x = cc in subst (λ z. UpTo Below y z) same (p.newest y h (keeps y h))

  picked : (n : Option A) → Picks Below History keep n → (x : A) → History x → ((g : A) → History g → Member g l) → (y : A) × In n y × (ended y ≡ true) × UpTo Below x y
  picked None p x h at = absurd (p x h (keeps x h))
  picked (Some g) p x h at = (g, refl, done g (at g p.held), p.newest x h (keeps x h))
