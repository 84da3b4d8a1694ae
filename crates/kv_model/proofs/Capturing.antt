-- What a checkpoint holds of one key: established by the capture, kept by all that happens until the finish, and enough there.
use Rattle.std.proofs.Common.{◌≡◌, ◌⊎◌, refl, ap, sym, ◌∙◌, Bool, true, false, List, [], ◌∷◌, inl, inr, subst}
use Rattle.std.specs.Prelude.{find, Option, Some, None, filter}
use Rattle.std.proofs.lemmas.Bool.{cases_Bool, both_ways, and_parts, and_from}
use Rattle.kv_model.specs.Holds.{Member, Descends, Picks, Covered, IsOrder, Stores}
use Rattle.kv_model.specs.History.{down_to}
use Rattle.kv_model.specs.Captures.{UpTo, Either, In, Layered, IsKeyLayered, Reconciled, both, Captured, IsKeyContent}
use Rattle.kv_model.proofs.Newest.{find-member, find-none, find-newest}

up-trans : {A : Type 0} (Below : A → A → Type 0) → ((x y z : A) → Below x y → Below y z → Below x z) → (x y z : A) → UpTo Below x y → UpTo Below y z → UpTo Below x z
up-trans Below trans x y z (inl e) second = subst (λ v. UpTo Below v z) (sym e) second
up-trans Below trans x y z (inr b) (inl e) = inr (subst (λ v. Below x v) e b)
up-trans Below trans x y z (inr b) (inr c) = inr (trans x y z b c)

-- the capture: from what stands at the event that makes the images
pub captured-from : {A : Type 0} (Below : A → A → Type 0) (covers ended live past seen low : A → Bool) (l : List A) (Frame History : A → Type 0) (cell : Option A) (Moved : A → Type 0)
    → IsOrder Below → ((x y z : A) → Below x y → Below y z → Below x z) → Descends Below l
    → Stores Below covers l Frame History
    → Layered Below ended Frame History
    → ((x : A) → ended x ≡ true → live x ≡ true)
    → ((x : A) → Member x l → seen x ≡ true → live x ≡ true)
    → ((x : A) → covers x ≡ true → (seen x ≡ true) × (low x ≡ true))
    → ((x : A) → Member x l → past x ≡ true → covers x ≡ true)
    → Reconciled Below live past Frame cell Moved
    → Captured Below seen low l cell (Either History Moved)
captured-from {A} Below covers ended live past seen low l Frame History cell Moved order trans d s layered done was shows older r = record {
  cell_there = λ x is. s.kept.within x (inl (held cell r.newest x is));
  within = λ x h. elim h [ inl old ↦ s.kept.within x (inr old) | inr m ↦ s.kept.within x (inl (r.moved x m).0) ];
  all = λ x there sees. elim (s.kept.all x there) [
    | inl h ↦ elim h [
      | inl f ↦ elim (r.all x f (was x there sees)) [
        | inl is ↦ inl (inl is)
        | inr rest ↦ elim rest [
          | inl m ↦ inl (inr (inr m))
          | inr c ↦ let w = s.kept.within c.0 (inl c.1) in let is = shows c.0 (older c.0 w c.4) in
              inr (record { by = c.0; there = w; above = c.2; is_cover = and_from (seen c.0) (low c.0) is.0 is.1 })
        ]
      ]
      | inr h ↦ inl (inr (inl h))
    ]
    | inr c ↦ let is = shows c.0 c.3 in inr (record { by = c.0; there = c.1; above = c.2; is_cover = and_from (seen c.0) (low c.0) is.0 is.1 })
  ];
  top = λ x there sees. over x there sees (find seen l) refl;
} where
  held : (c : Option A) → Picks Below Frame live c → (x : A) → In c x → Frame x
  held None p x is = absurd (cc)
  held (Some v) p x is = let e : v ≡ x = cc in subst Frame e p.held

  reach : (c : Option A) → Picks Below Frame live c → (x y : A) → Frame y → live y ≡ true → UpTo Below x y → (v : A) × In c v × UpTo Below x v
  reach None p x y f lives up = absurd (p y f lives)
  reach (Some v) p x y f lives up = (v, refl, up-trans Below trans x y v up (p.newest y f lives))

  at-newest : (g : A) → Member g l → seen g ≡ true → ((w : A) → Member w l → seen w ≡ true → UpTo Below w g) → (x : A) → UpTo Below x g → (v : A) × In cell v × UpTo Below x v
  at-newest g there sees newest x up = elim (s.kept.all g there) [
    | inl h ↦ elim h [
      | inl f ↦ reach cell r.newest x g f (was g there sees) up
      | inr h ↦ let y = layered g h in reach cell r.newest x y.0 y.1 (done y.0 y.2) (up-trans Below trans x g y.0 up y.3)
    ]
    | inr c ↦ elim (newest c.0 c.1 (shows c.0 c.3).0) [
      | inl same ↦ absurd (order.irrefl g (subst (λ v. Below g v) same c.2))
      | inr below ↦ absurd (order.asym c.0 g below c.2)
    ]
  ]

  over : (x : A) → Member x l → seen x ≡ true → (o : Option A) → find seen l ≡ o → (v : A) × In cell v × UpTo Below x v
  over x there sees None e = absurd (find-none seen l e x there sees)
  over x there sees (Some g) e = let m = find-member seen l g e in
      at-newest g m.0 m.1 (λ w at t. find-newest Below seen l g d e w at t) x (find-newest Below seen l g d e x there sees)

-- a commit after the start adds a version that the checkpoint does not see
pub captured-commit : {A : Type 0} (Below : A → A → Type 0) (seen low : A → Bool) (l : List A) (cell : Option A) (History : A → Type 0) (v : A)
    → seen v ≡ false → Captured Below seen low l cell History → Captured Below seen low (v ∷ l) cell History
captured-commit {A} Below seen low l cell History v unseen c = record {
  cell_there = λ x is. inr (c.cell_there x is);
  within = λ x h. inr (c.within x h);
  all = λ x there sees. elim there [
    | inl same ↦ absurd (both_ways (seen v) unseen (subst (λ y. seen y ≡ true) same sees))
    | inr old ↦ elim (c.all x old sees) [ inl h ↦ inl h | inr k ↦ inr (record { by = k.by; there = inr k.there; above = k.above; is_cover = k.is_cover }) ]
  ];
  top = λ x there sees. elim there [
    | inl same ↦ absurd (both_ways (seen v) unseen (subst (λ y. seen y ≡ true) same sees))
    | inr old ↦ c.top x old sees
  ];
}

-- evictions add versions of the line and a sweep takes out covered ones, also both at once
pub captured-history : {A : Type 0} (Below : A → A → Type 0) (covers seen low : A → Bool) (l : List A) (cell : Option A) (History History' : A → Type 0)
    → ((x : A) → covers x ≡ true → (seen x ≡ true) × (low x ≡ true))
    → ((x : A) → History' x → Member x l)
    → ((x : A) → History x → History' x ⊎ Covered Below covers l x)
    → Captured Below seen low l cell History → Captured Below seen low l cell History'
captured-history Below covers seen low l cell History History' shows into out c = record {
  cell_there = c.cell_there;
  within = into;
  all = λ x there sees. elim (c.all x there sees) [
    | inl h ↦ elim h [
      | inl is ↦ inl (inl is)
      | inr h ↦ elim (out x h) [
        | inl stays ↦ inl (inr stays)
        | inr k ↦ let is = shows k.by k.is_cover in inr (record { by = k.by; there = k.there; above = k.above; is_cover = and_from (seen k.by) (low k.by) is.0 is.1 })
      ]
    ]
    | inr k ↦ inr k
  ];
  top = c.top;
}

-- two lists agree down to a low version, where one lacks only what a low version of the other covers
pub cores-agree : {A : Type 0} (Below : A → A → Type 0) (low : A → Bool) (l held : List A) → IsOrder Below → Descends Below l → Descends Below held
    → ((x : A) → Member x held → Member x l) → ((x : A) → Member x l → Member x held ⊎ Covered Below low l x) → down_to low l ≡ down_to low held
cores-agree Below low [] [] order d e into all = refl
cores-agree Below low [] (y ∷ ys) order d e into all = absurd (into y (inl refl))
cores-agree {A} Below low (x ∷ xs) [] order d e into all = elim (all x (inl refl)) [
  | inl none ↦ absurd none
  | inr k ↦ elim k.there [ inl same ↦ absurd (order.irrefl x (subst (λ v. Below x v) same k.above)) | inr later ↦ absurd (order.asym x k.by k.above (d.0 k.by later)) ]
]
cores-agree {A} Below low (x ∷ xs) (y ∷ ys) order d e into all = go (cases_Bool (low x)) (λ high. cores-agree Below low xs ys order d.1 e.1 into' (all' high)) where
  here : Member x (y ∷ ys)
  here = elim (all x (inl refl)) [
    | inl there ↦ there
    | inr k ↦ elim k.there [ inl same ↦ absurd (order.irrefl x (subst (λ v. Below x v) same k.above)) | inr later ↦ absurd (order.asym x k.by k.above (d.0 k.by later)) ]
  ]

  heads : x ≡ y
  heads = elim here [
    | inl same ↦ same
    | inr under ↦ elim (into y (inl refl)) [ inl same ↦ sym same | inr below ↦ absurd (order.asym x y (e.0 x under) (d.0 y below)) ]
  ]

  into' : (z : A) → Member z ys → Member z xs
  into' z there = elim (into z (inr there)) [
    | inl same ↦ absurd (order.irrefl y (subst (λ v. Below v y) (same ∙ heads) (e.0 z there)))
    | inr later ↦ later
  ]

  all' : low x ≡ false → (z : A) → Member z xs → Member z ys ⊎ Covered Below low xs z
  all' high z there = elim (all z (inr there)) [
    | inl at ↦ elim at [
      | inl same ↦ absurd (order.irrefl x (subst (λ v. Below v x) (same ∙ sym heads) (d.0 z there)))
      | inr later ↦ inl later
    ]
    | inr k ↦ elim k.there [
      | inl same ↦ absurd (both_ways (low x) high (subst (λ v. low v ≡ true) same k.is_cover))
      | inr later ↦ inr (record { by = k.by; there = later; above = k.above; is_cover = k.is_cover })
    ]
  ]

  go : (low x ≡ true) ⊎ (low x ≡ false) → (low x ≡ false → down_to low xs ≡ down_to low ys) → down_to low (x ∷ xs) ≡ down_to low (y ∷ ys)
  go (inl t) later = rw (t, subst (λ v. low v ≡ true) heads t) (ap (λ v. v ∷ []) heads)
  go (inr f) later = rw (f, subst (λ v. low v ≡ false) heads f) (ap (λ v. v ∷ down_to low xs) heads ∙ ap (λ t. y ∷ t) (later f))

pub member-into : {A : Type 0} (keeps : A → Bool) (l : List A) (x : A) → Member x l → keeps x ≡ true → Member x (filter keeps l)
member-into keeps [] x there t = there
member-into keeps (y ∷ ys) x (inl is) t = rw (subst (λ v. keeps v ≡ true) is t) (inl is)
member-into keeps (y ∷ ys) x (inr there) t = elim (cases_Bool (keeps y)) [ inl k ↦ rw k (inr (member-into keeps ys x there t)) | inr n ↦ rw n (member-into keeps ys x there t) ]

pub member-out : {A : Type 0} (keeps : A → Bool) (l : List A) (x : A) → Member x (filter keeps l) → Member x l × (keeps x ≡ true)
member-out keeps [] x there = absurd there
member-out keeps (y ∷ ys) x there = elim (cases_Bool (keeps y)) [
  | inl k ↦ elim (rw k at there) [ inl is ↦ (inl is, subst (λ v. keeps v ≡ true) (sym is) k) | inr later ↦ let o = member-out keeps ys x later in (inr o.0, o.1) ]
  | inr n ↦ let o = member-out keeps ys x (rw n at there) in (inr o.0, o.1)
]

pub descends-filter : {A : Type 0} (Below : A → A → Type 0) (f : A → Bool) (l : List A) → Descends Below l → Descends Below (filter f l)
descends-filter Below f [] d = d
descends-filter Below f (x ∷ xs) d = elim (cases_Bool (f x)) [
  | inl is ↦ rw is ((λ y there. d.0 y (member-out f xs y there).0), descends-filter Below f xs d.1)
  | inr isnt ↦ rw isnt (descends-filter Below f xs d.1)
]

-- at the finish: what is kept of image and history agrees with what is kept of the line
pub captured-agrees : {A : Type 0} (Below : A → A → Type 0) (seen low stable : A → Bool) (l content : List A) (cell : Option A) (History : A → Type 0)
    → IsOrder Below → Descends Below l → Descends Below content → ((x : A) → low x ≡ true → stable x ≡ true)
    → IsKeyContent (both seen stable) cell History content
    → Captured Below seen low l cell History → down_to low (filter (both seen stable) l) ≡ down_to low content
captured-agrees Below seen low stable l content cell History order d e below is c =
    cores-agree Below low (filter (both seen stable) l) content order (descends-filter Below (both seen stable) l d) e
    (λ x there. let f = is.from x there in member-into (both seen stable) l x (elim f.0 [ inl at ↦ c.cell_there x at | inr h ↦ c.within x h ]) f.1)
    (λ x there. let o = member-out (both seen stable) l x there in let p = and_parts (seen x) (stable x) o.1 in elim (c.all x o.0 p.0) [
      | inl h ↦ inl (is.into x h o.1)
      | inr k ↦ let q = and_parts (seen k.by) (low k.by) k.is_cover in
          inr (record { by = k.by; there = member-into (both seen stable) l k.by k.there (and_from (seen k.by) (stable k.by) q.0 (below k.by q.1)); above = k.above; is_cover = q.1 })
    ])

-- what is written is layered, whatever was added to the history after the capture
pub captured-layered : {A : Type 0} (Below : A → A → Type 0) (seen low stable : A → Bool) (l : List A) (cell : Option A) (History : A → Type 0)
    → Captured Below seen low l cell History → IsKeyLayered Below (both seen stable) cell History
captured-layered Below seen low stable l cell History c = λ x h keeps. c.top x (c.within x h) (and_parts (seen x) (stable x) keeps).0

-- what an unresolved update on top of the chain leaves of a reconciliation
pub reconciled-settled : {A : Type 0} (Below : A → A → Type 0) (live past : A → Bool) (Chain Settled : A → Type 0) (cell : Option A) (Moved : A → Type 0)
    → ((x : A) → Settled x → Chain x) → ((x : A) → Chain x → live x ≡ true → Settled x)
    → Reconciled Below live past Chain cell Moved → Reconciled Below live past Settled cell Moved
reconciled-settled {A} Below live past Chain Settled cell Moved fewer of-live r = record {
  newest = picks cell r.newest;
  moved = λ x m. let at = r.moved x m in (of-live x at.0 at.1, at.1);
  all = λ x f lives. elim (r.all x (fewer x f) lives) [
    | inl is ↦ inl is
    | inr rest ↦ elim rest [ inl m ↦ inr (inl m) | inr c ↦ inr (inr (c.0, of-live c.0 c.1 c.3, c.2, c.3, c.4)) ]
  ];
} where
  picks : (o : Option A) → Picks Below Chain live o → Picks Below Settled live o
  picks None p = λ x f t. p x (fewer x f) t
  picks (Some v) p = record { held = of-live v p.held p.passes; passes = p.passes; newest = λ y f t. p.newest y (fewer y f) t }
