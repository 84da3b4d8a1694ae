-- The steps: an eviction, a capture, an entry of the history, a rollback to stable.
use Rattle.std.proofs.Common.{◌≡◌, ◌⊎◌, ℕ, refl, sym, ◌∙◌, Bool, true, false, ◌++◌, List, [], ◌∷◌, length, inl, inr, subst, map}
use Rattle.std.specs.Prelude.{find, Option, Some, None, filter}
use Rattle.std.proofs.lemmas.Bool.{both_ways, and_parts, and_from}
use Rattle.item.specs.declared.Change.{Change}
use Rattle.stamp.specs.declared.Name.{Name}
use Rattle.stamp.specs.declared.Version.{Version}
use Rattle.kv_model.specs.Holds.{Member, Descends, Picks, IsOrder, Stores}
use Rattle.kv_model.specs.Ordered.{Older}
use Rattle.kv_model.specs.History.{Entry, Create, Commit, Prepare, Resolve, Undo, Rts, Write, line, version_of, writes_at, is_by, committed}
use Rattle.kv_model.specs.Captures.{UpTo, Either, In, Layered, Reconciled, Captured, is_in, MayFollow, KeyCaptured}
use Rattle.kv_model.proofs.Newest.{find-member, find-none, find-newest}
use Rattle.kv_model.proofs.Ordering.{line-writes}
use Rattle.kv_model.proofs.Capturing.{descends-filter}
use Rattle.kv_model.proofs.Living.{stores-moves, layered-moves}
use Rattle.kv_model.proofs.FrameAndHistory.{stores-filter}
use Rattle.kv_model.proofs.Finishing.{committed-start, member-append, named-so}

picks-held : {A : Type 0} (Below : A → A → Type 0) (Frame : A → Type 0) (live : A → Bool) (c : Option A) → Picks Below Frame live c → (x : A) → In c x → Frame x × (live x ≡ true)
picks-held Below Frame live None p x is = absurd (cc)
picks-held Below Frame live (Some v) p x is = let e : v ≡ x = cc in (subst Frame e p.held, subst (λ z. live z ≡ true) e p.passes)

picks-above : {A : Type 0} (Below : A → A → Type 0) (Frame : A → Type 0) (live : A → Bool) (c : Option A) → Picks Below Frame live c → (y : A) → Frame y → live y ≡ true → (v : A) × In c v × UpTo Below y v
picks-above Below Frame live None p y f lives = absurd (p y f lives)
picks-above Below Frame live (Some v) p y f lives = (v, refl, p.newest y f lives)

-- an eviction leaves the image's cell in the frame, of which nothing is unresolved
pub evict-stands : {A : Type 0} (Below : A → A → Type 0) (covers ended past : A → Bool) (l : List A) (Frame History : A → Type 0) (cell : Option A) (Moved : A → Type 0)
    → IsOrder Below → ((x y z : A) → Below x y → Below y z → Below x z)
    → Stores Below covers l Frame History → Layered Below ended Frame History
    → ((x : A) → Frame x → ended x ≡ true) → ((x : A) → Member x l → past x ≡ true → covers x ≡ true)
    → Reconciled Below ended past Frame cell Moved
    → Stores Below covers l (In cell) (Either History Moved) × Layered Below ended (In cell) (Either History Moved)
evict-stands {A} Below covers ended past l Frame History cell Moved order trans s layered done older r = (
  stores-moves Below covers l Frame History (In cell) (Either History Moved) s (λ x is. (picks-held Below Frame ended cell r.newest x is).0)
      (λ x h. elim h [ inl old ↦ s.kept.within x (inr old) | inr m ↦ s.kept.within x (inl (r.moved x m).0) ])
      (λ x held. elim held [
        | inl f ↦ elim (r.all x f (done x f)) [
          | inl is ↦ inl (inl is)
          | inr rest ↦ elim rest [
            | inl m ↦ inl (inr (inr m))
            | inr c ↦ let w = s.kept.within c.0 (inl c.1) in inr (record { by = c.0; there = w; above = c.2; is_cover = older c.0 w c.4 })
          ]
        ]
        | inr h ↦ inl (inr (inl h))
      ])
      (λ x y is f below. let v = picks-above Below Frame ended cell r.newest y f (done y f) in let same : x ≡ v.0 = some-same is v.1 in elim v.2 [
        | inl e ↦ absurd (order.irrefl x (subst (λ z. Below x z) (e ∙ sym same) below))
        | inr up ↦ absurd (order.asym x y below (subst (λ z. Below y z) (sym same) up))
      ]),
  layered-moves Below ended ended Frame History (In cell) (Either History Moved) trans layered
      (λ y f e. let v = picks-above Below Frame ended cell r.newest y f e in (v.0, v.1, (picks-held Below Frame ended cell r.newest v.0 v.1).1, v.2))
      (λ x h. elim h [ inl old ↦ inl old | inr m ↦ inr (x, (r.moved x m).0, (r.moved x m).1, inl refl) ]),
) where
  some-same : {x y : A} → In cell x → In cell y → x ≡ y
  some-same e f = cc

-- a capture leaves the frame as it is
pub capture-stands : {A : Type 0} (Below : A → A → Type 0) (covers ended live past : A → Bool) (l : List A) (Frame History : A → Type 0) (cell : Option A) (Moved : A → Type 0)
    → ((x y z : A) → Below x y → Below y z → Below x z)
    → Stores Below covers l Frame History → Layered Below ended Frame History → ((x : A) → Frame x → live x ≡ true → ended x ≡ true)
    → Reconciled Below live past Frame cell Moved
    → Stores Below covers l Frame (Either History Moved) × Layered Below ended Frame (Either History Moved)
capture-stands Below covers ended live past l Frame History cell Moved trans s layered done r = (
  stores-moves Below covers l Frame History Frame (Either History Moved) s (λ x f. f)
      (λ x h. elim h [ inl old ↦ s.kept.within x (inr old) | inr m ↦ s.kept.within x (inl (r.moved x m).0) ])
      (λ x held. elim held [ inl f ↦ inl (inl f) | inr h ↦ inl (inr (inl h)) ])
      (λ x y f g below. inl g),
  layered-moves Below ended ended Frame History Frame (Either History Moved) trans layered (λ y f e. (y, f, e, inl refl))
      (λ x h. elim h [ inl old ↦ inl old | inr m ↦ let at = r.moved x m in inr (x, at.0, done x at.0 at.1, inl refl) ]),
)

member-right : {A : Type 0} (x : A) (new l : List A) → Member x l → Member x (new ++ l)
member-right x [] l there = there
member-right x (y ∷ ys) l there = inr (member-right x ys l there)

pub captured-grow : {A : Type 0} (Below : A → A → Type 0) (seen seen' low : A → Bool) (new l : List A) (cell : Option A) (History : A → Type 0)
    → ((x : A) → seen' x ≡ seen x) → ((x : A) → Member x new → seen x ≡ false) → Captured Below seen low l cell History → Captured Below seen' low (new ++ l) cell History
captured-grow {A} Below seen seen' low new l cell History same unseen c = record {
  cell_there = λ x is. member-right x new l (c.cell_there x is);
  within = λ x h. member-right x new l (c.within x h);
  all = λ x there sees. let s = sym (same x) ∙ sees in elim (c.all x (old x there s) s) [
    | inl h ↦ inl h
    | inr k ↦ let p = and_parts (seen k.by) (low k.by) k.is_cover in
        inr (record { by = k.by; there = member-right k.by new l k.there; above = k.above; is_cover = and_from (seen' k.by) (low k.by) (same k.by ∙ p.0) p.1 })
  ];
  top = λ x there sees. let s = sym (same x) ∙ sees in c.top x (old x there s) s;
} where
  old : (x : A) → Member x (new ++ l) → seen x ≡ true → Member x l
  old x there sees = elim (member-append x new l there) [ inl at ↦ absurd (both_ways (seen x) (unseen x at) sees) | inr at ↦ at ]

-- every entry that may come while the checkpoint runs keeps what it holds
pub key-captured-entry : (entry : Entry) (news start : List Entry) (oldest table : ℕ) (key : List ℕ) (cell : Option (Version Change)) (History : Version Change → Type 0)
    → MayFollow start entry → KeyCaptured news start oldest table key cell History → KeyCaptured (entry ∷ news) start oldest table key cell History
key-captured-entry entry news start oldest table key cell History may c = go entry may where
  same : (e : Entry) (v : Version Change) → is_in (e ∷ (news ++ start)) (length start) v ≡ is_in (news ++ start) (length start) v
  same e v = committed-start (e ∷ news) start v.window.name ∙ sym (committed-start news start v.window.name)

  quiet : (e : Entry) → line (e ∷ (news ++ start)) table key ≡ line (news ++ start) table key → KeyCaptured (e ∷ news) start oldest table key cell History
  quiet e is = subst (λ l. Captured Older (is_in (e ∷ (news ++ start)) (length start)) (is_by oldest) l cell History) (sym is)
      (captured-grow Older (is_in (news ++ start) (length start)) (is_in (e ∷ (news ++ start)) (length start)) (is_by oldest) [] (line (news ++ start) table key) cell History (same e) (λ x there. absurd there) c)

  writing : (e : Entry) (name : Name) (writes : List Write) → committed start (length start) name ≡ false
      → line (e ∷ (news ++ start)) table key ≡ map (version_of name) (filter (writes_at table key) writes) ++ line (news ++ start) table key → KeyCaptured (e ∷ news) start oldest table key cell History
  writing e name writes fresh is = subst (λ l. Captured Older (is_in (e ∷ (news ++ start)) (length start)) (is_by oldest) l cell History) (sym is)
      (captured-grow Older (is_in (news ++ start) (length start)) (is_in (e ∷ (news ++ start)) (length start)) (is_by oldest) (map (version_of name) (filter (writes_at table key) writes)) (line (news ++ start) table key) cell History (same e)
      (λ v there. committed-start news start v.window.name ∙ subst (λ x. committed start (length start) x ≡ false) (sym (named-so name (filter (writes_at table key) writes) v there)) fresh) c)

  go : (e : Entry) → MayFollow start e → KeyCaptured (e ∷ news) start oldest table key cell History
  go (Create t) may = quiet (Create t) refl
  go (Commit name writes) may = writing (Commit name writes) name writes may (line-writes name writes (news ++ start) table key)
  go (Prepare name stamp) may = quiet (Prepare name stamp) refl
  go (Resolve name writes) may = writing (Resolve name writes) name writes may (line-writes name writes (news ++ start) table key)
  go (Undo name) may = quiet (Undo name) refl
  go (Rts s) may = absurd may

-- a rollback to stable, in a frame: where nothing of the key is left there, the newest record comes back
pub rts-stands : {A : Type 0} (Below : A → A → Type 0) (covers keeps : A → Bool) (l : List A) (Frame History : A → Type 0) (back : Option A)
    → IsOrder Below → Descends Below l → ((x : A) → covers x ≡ true → keeps x ≡ true)
    → Stores Below covers l Frame History
    → (((x : A) × Frame x × (keeps x ≡ true)) × (back ≡ None)) ⊎ (((x : A) → Frame x → keeps x ≡ true → ⊥) × Picks Below History keeps back)
    → Stores Below covers (filter keeps l) (Either (λ x. Frame x × (keeps x ≡ true)) (In back)) (λ x. History x × (keeps x ≡ true))
    × Layered Below (λ x. true) (Either (λ x. Frame x × (keeps x ≡ true)) (In back)) (λ x. History x × (keeps x ≡ true))
rts-stands {A} Below covers keeps l Frame History back order d low s (inl t) = (
  record {
    kept = record {
      within = λ x held. elim held [ inl f ↦ elim f [ inl g ↦ f'.kept.within x (inl g) | inr is ↦ absurd (nothing x is) ] | inr h ↦ f'.kept.within x (inr h) ];
      all = λ x there. elim (f'.kept.all x there) [ inl held ↦ elim held [ inl f ↦ inl (inl (inl f)) | inr h ↦ inl (inr h) ] | inr c ↦ inr c ];
    };
    upper = λ x y f there below. elim f [ inl g ↦ elim (f'.upper x y g there below) [ inl h ↦ inl (inl h) | inr c ↦ inr c ] | inr is ↦ absurd (nothing x is) ];
  },
  λ x h. over x h (find (λ y. true) (filter keeps l)) refl,
) where
  f' : Stores Below covers (filter keeps l) (λ x. Frame x × (keeps x ≡ true)) (λ x. History x × (keeps x ≡ true))
  f' = stores-filter Below covers keeps l Frame History low s

  nothing : (x : A) → In back x → ⊥
  nothing x is = let e : In None x = sym t.1 ∙ is in cc

  dl : Descends Below (filter keeps l)
  dl = descends-filter Below keeps l d

  over : (x : A) → History x × (keeps x ≡ true) → (o : Option A) → find (λ y. true) (filter keeps l) ≡ o
      → (y : A) × Either (λ x. Frame x × (keeps x ≡ true)) (In back) y × (true ≡ true) × UpTo Below x y
  over x h None e = absurd (find-none (λ y. true) (filter keeps l) e x (f'.kept.within x (inr h)) refl)
  over x h (Some g) e = let at = (find-member (λ y. true) (filter keeps l) g e).0 in
      let up = find-newest Below (λ y. true) (filter keeps l) g dl e t.0.0 (f'.kept.within t.0.0 (inl (t.0.1, t.0.2))) refl in
      let above = find-newest Below (λ y. true) (filter keeps l) g dl e x (f'.kept.within x (inr h)) refl in elim up [
        | inl same ↦ (g, inl (subst Frame same t.0.1, subst (λ z. keeps z ≡ true) same t.0.2), refl, above)
        | inr below ↦ elim (f'.upper t.0.0 g (t.0.1, t.0.2) at below) [
          | inl f ↦ (g, inl f, refl, above)
          | inr c ↦ elim (find-newest Below (λ y. true) (filter keeps l) g dl e c.by c.there refl) [
            | inl same ↦ absurd (order.irrefl g (subst (λ v. Below g v) same c.above))
            | inr under ↦ absurd (order.asym c.by g under c.above)
          ]
        ]
      ]
rts-stands {A} Below covers keeps l Frame History back order d low s (inr t) = (
  record {
    kept = record {
      within = λ x held. elim held [ inl f ↦ elim f [ inl g ↦ absurd (t.0 x g.0 g.1) | inr is ↦ f'.kept.within x (inr (picks-held Below History keeps back t.1 x is)) ] | inr h ↦ f'.kept.within x (inr h) ];
      all = λ x there. elim (f'.kept.all x there) [ inl held ↦ elim held [ inl f ↦ inl (inl (inl f)) | inr h ↦ inl (inr h) ] | inr c ↦ inr c ];
    };
    upper = λ x y f there below. elim f [
      | inl g ↦ absurd (t.0 x g.0 g.1)
      | inr is ↦ elim (f'.kept.all y there) [
        | inl held ↦ elim held [
          | inl g ↦ absurd (t.0 y g.0 g.1)
          | inr h ↦ let v = picks-above Below History keeps back t.1 y h.0 h.1 in let same : x ≡ v.0 = some-same is v.1 in elim v.2 [
            | inl e ↦ absurd (order.irrefl x (subst (λ z. Below x z) (e ∙ sym same) below))
            | inr up ↦ absurd (order.asym x y below (subst (λ z. Below y z) (sym same) up))
          ]
        ]
        | inr c ↦ inr (record { by = c.0; there = c.1; above = c.2; is_cover = c.3 })
      ]
    ];
  },
  λ x h. let v = picks-above Below History keeps back t.1 x h.0 h.1 in (v.0, inr v.1, refl, v.2),
) where
  f' : Stores Below covers (filter keeps l) (λ x. Frame x × (keeps x ≡ true)) (λ x. History x × (keeps x ≡ true))
  f' = stores-filter Below covers keeps l Frame History low s

  some-same : {x y : A} → In back x → In back y → x ≡ y
  some-same e f = cc
