-- A trim of a chain that stands for its key loses only what is past.
use Rattle.std.proofs.Common.{◌≡◌, ◌⊎◌, ◌<◌, ◌≤◌, ℕ, refl, ap, sym, ◌∙◌, Bool, true, false, List, [], ◌∷◌, ◌++◌, length, inl, inr, subst, map, arith}
use Rattle.std.specs.Prelude.{Option, ◌&&◌, ◌==◌, nat_le, if◌then◌else◌}
use Rattle.std.specs.Option.{option_to_list}
use Rattle.std.proofs.lemmas.Bool.{cases_Bool, both_ways, and_parts, leb-true}
use Rattle.item.specs.declared.Change.{Change}
use Rattle.stamp.specs.declared.Name.{Name}
use Rattle.stamp.specs.declared.Version.{Version}
use Rattle.kv_model.specs.Holds.{Member, Descends, Covered}
use Rattle.kv_model.specs.Ordered.{Older, NameBelow}
use Rattle.kv_model.specs.Captures.{UpTo}
use Rattle.kv_model.specs.History.{Write, line, down_to, released, committed}
use Rattle.kv_model.specs.Machine.{Machine, Phase, Running, Failed, Prepared, Resolving, Leaving, name_of}
use Rattle.kv_model.specs.Droppable.{covers}
use Rattle.kv_model.specs.Valid.{Valid, PhaseStands}
use Rattle.kv_model.specs.Pending.{Update as ModelUpdate, settled as model_settled, IsTop, TopStands, KeyStands, InFrame, HasEnded}
use Rattle.kv_model.proofs.Finishing.{line-committed}
use Rattle.kv_model.proofs.Living.{stores-moves}
use Rattle.kv_model.proofs.Releases.{false-from}
use Rattle.kv_model.proofs.Snapshots.{line-released}
use Rattle.kv_model.specs.StoreLaws.{Held}
use Rattle.snapshot.specs.Matters.{IsLive, Counts}
use Rattle.snapshot.specs.Past.{IsPast, is_below}
use Rattle.update_chain.specs.Updates.{update_in, unmarked_update, covers_at}
use Rattle.update_chain.specs.EventLaws.{TrimsStand}
use Rattle.update_chain.proofs.Below.{member-append-left, member-append-right, member-append}
use Rattle.update_chain.proofs.Meeting.{back, has-writes, counts-writes, writer-drawn}
use Rattle.update_chain.proofs.Tops.{below-stands, frame-stands}

-- ---- lists that are cut

pub down-within : {A : Type 0} (p : A → Bool) (l : List A) (x : A) → Member x (down_to p l) → Member x l
down-within p [] x at = at
down-within p (y ∷ l) x at = elim (cases_Bool (p y)) [
  | inl is ↦ elim (rw is at at) [ inl e ↦ inl e | inr none ↦ absurd none ]
  | inr isnt ↦ elim (rw isnt at at) [ inl e ↦ inl e | inr deep ↦ inr (down-within p l x deep) ]
]

-- what is cut off is below one that stays and passes
down-lost : {A : Type 0} (Below : A → A → Type 0) (p : A → Bool) (l : List A) (x : A) → Descends Below l → Member x l → Member x (down_to p l) ⊎ ((c : A) × Member c (down_to p l) × (p c ≡ true) × Below x c)
down-lost Below p [] x d at = absurd at
down-lost Below p (y ∷ l) x d at = elim (cases_Bool (p y)) [
  | inl is ↦ rw is (elim at [ inl e ↦ inl (inl e) | inr deep ↦ inr (y, inl refl, is, d.0 x deep) ])
  | inr isnt ↦ rw isnt (elim at [
    | inl e ↦ inl (inl e)
    | inr deep ↦ elim (down-lost Below p l x d.1 deep) [ inl stays ↦ inl (inr stays) | inr c ↦ inr (c.0, inr c.1, c.2, c.3) ]
  ])
]

down-mapped : {A B : Type 0} (f : A → B) (p : B → Bool) (l : List A) → down_to p (map f l) ≡ map f (down_to (λ x. p (f x)) l)
down-mapped f p [] = refl
down-mapped f p (x ∷ l) = elim (cases_Bool (p (f x))) [
  | inl is ↦ rw is refl
  | inr isnt ↦ rw isnt (ap (λ z. f x ∷ z) (down-mapped f p l))
]

descends-left : {A : Type 0} (Below : A → A → Type 0) (xs ys : List A) → Descends Below (xs ++ ys) → Descends Below xs
descends-left Below [] ys d = tt
descends-left Below (x ∷ xs) ys d = ((λ y at. d.0 y (member-append-left y xs ys at)), descends-left Below xs ys d.1)

descends-right : {A : Type 0} (Below : A → A → Type 0) (xs ys : List A) → Descends Below (xs ++ ys) → Descends Below ys
descends-right Below [] ys d = d
descends-right Below (x ∷ xs) ys d = descends-right Below xs ys d.1

descends-down : {A : Type 0} (Below : A → A → Type 0) (p : A → Bool) (xs ys : List A) → Descends Below (xs ++ ys) → Descends Below (down_to p xs ++ ys)
descends-down Below p [] ys d = d
descends-down Below p (x ∷ xs) ys d = elim (cases_Bool (p x)) [
  | inl is ↦ rw is ((λ y at. d.0 y (member-append-right y xs ys at)), descends-right Below xs ys d.1)
  | inr isnt ↦ rw isnt (
    (λ y at. elim (member-append y (down_to p xs) ys at) [
      | inl one ↦ d.0 y (member-append-left y xs ys (down-within p xs y one))
      | inr two ↦ d.0 y (member-append-right y xs ys two)
    ]),
    descends-down Below p xs ys d.1,
  )
]

-- ---- what is past

-- its transaction has ended
past-ended : (m : Machine) (table : ℕ) (key : List ℕ) (pin : ℕ) (floor : Name) (v : Version Change) → Valid m → IsPast m table key pin floor → Member v (line m.history table key) → is_below v.window.name floor ≡ true → HasEnded m v.window.name
past-ended m table key pin floor v valid past at below s t there name = by-phase t.phase refl where
  seen : released m.history (length m.history) (name_of m t) ≡ true
  seen = subst (λ n. released m.history (length m.history) n ≡ true) name (line-released m.history valid.orderly table key v at)

  drawn : 0 < t.id
  drawn = elim (valid.names (name_of m t) seen) [ inl earlier ↦ absurd (omega arith) | inr now ↦ now.1 ]

  living : Counts t.phase t → ⊥
  living counts = both_ways (is_below (name_of m t) floor) (past.living (name_of m t) (record { session = s; transaction = t; there = there; drawn = drawn; name = refl; counts = counts })) (subst (λ n. is_below n floor ≡ true) name below)

  phase : (p : Phase) → t.phase ≡ p → PhaseStands p m.history (name_of m t) t
  phase p is = subst (λ q. PhaseStands q m.history (name_of m t) t) is (valid.sessions.each s t there).phase

  by-phase : (p : Phase) → t.phase ≡ p → ⊥
  by-phase Running is = both_ways (released m.history (length m.history) (name_of m t)) (phase Running is) seen
  by-phase Failed is = both_ways (released m.history (length m.history) (name_of m t)) (phase Failed is) seen
  by-phase Leaving is = both_ways (released m.history (length m.history) (name_of m t)) (phase Leaving is) seen
  by-phase (Prepared stamp) is = both_ways (committed m.history (length m.history) (name_of m t)) (phase (Prepared stamp) is).uncommitted
      (subst (λ n. committed m.history (length m.history) n ≡ true) name (line-committed m.history table key v at))
  by-phase Resolving is = by-writes t.writes refl where
    by-writes : (writes : List Write) → t.writes ≡ writes → ⊥
    by-writes [] none = both_ways (released m.history (length m.history) (name_of m t)) ((phase Resolving is).empty none) seen
    by-writes (w ∷ rest) some = living (subst (λ p. Counts p t) (sym is) (w, subst (Member w) (sym some) (inl refl)))

-- ---- trims

-- the committed versions are trimmed
trimmed-held : (m : Machine) (table : ℕ) (key : List ℕ) (chain : List ModelUpdate) (cell : Option (Version Change)) (H : Version Change → Type 0) (pin : ℕ) (floor : Name) → Valid m → IsPast m table key pin floor
    → (k : KeyStands m table key chain cell H) → KeyStands m table key (k.top ++ map model_settled (down_to (λ v. covers_at pin floor (unmarked_update v)) k.held)) cell H
trimmed-held m table key chain cell H pin floor valid past k = record {
  top = k.top;
  held = stay;
  below = k.below;
  chained = refl;
  ordered = descends-down Older passes k.held (option_to_list cell) k.ordered;
  topped = k.topped;
  stores = stores-moves Older (covers m) k.below (InFrame k.held cell) H (InFrame stay cell) H k.stores
      (λ x at. elim at [ inl deep ↦ inl (down-within passes k.held x deep) | inr is ↦ inr is ])
      (λ x at. k.stores.kept.within x (inr at))
      (λ x at. elim at [ inl frame ↦ elim (stays x frame) [ inl here ↦ inl (inl here) | inr c ↦ inr (covered x c) ] | inr old ↦ inl (inr old) ])
      (λ x y frame old below. elim (stays y old) [ inl here ↦ inl here | inr c ↦ inr (covered y c) ]);
  layered = λ v at. let a = k.layered v at in elim (stays a.0 a.1) [
    | inl here ↦ (a.0, here, a.2, a.3)
    | inr c ↦ (c.0, inl c.1, past-ended m table key pin floor c.0 valid past (frame-stands m table key chain cell H k c.0 (inl (down-within passes k.held c.0 c.1))) (parts c.0 c.2).1, higher v a.0 c.0 a.3 c.3)
  ];
} where
  passes : Version Change → Bool
  passes v = covers_at pin floor (unmarked_update v)

  stay : List (Version Change)
  stay = down_to passes k.held

  parts : (c : Version Change) → passes c ≡ true → (c.window.durable ≤ pin) × (is_below c.window.name floor ≡ true)
  parts c is = let p = and_parts (nat_le c.window.durable pin) (is_below c.window.name floor) is in (leb-true c.window.durable pin p.0, p.1)

  stays : (x : Version Change) → InFrame k.held cell x → InFrame stay cell x ⊎ ((c : Version Change) × Member c stay × (passes c ≡ true) × Older x c)
  stays x (inr is) = inl (inr is)
  stays x (inl at) = elim (down-lost Older passes k.held x (descends-left Older k.held (option_to_list cell) k.ordered) at) [ inl here ↦ inl (inl here) | inr c ↦ inr c ]

  covered : (x : Version Change) → ((c : Version Change) × Member c stay × (passes c ≡ true) × Older x c) → Covered Older (covers m) k.below x
  covered x c = let at = inl (inl (down-within passes k.held c.0 c.1)) in let there = k.stores.kept.within c.0 at in
      record { by = c.0; there = there; above = c.3; is_cover = past.cover c.0 (below-stands m table key k.top k.below k.topped c.0 there) (parts c.0 c.2).0 (parts c.0 c.2).1 }

  over : (x y z : Name) → NameBelow x y → NameBelow y z → NameBelow x z
  over x y z (inl a) (inl b) = inl (omega arith)
  over x y z (inl a) (inr b) = let e = b.0 in inl (omega arith)
  over x y z (inr a) (inl b) = let e = a.0 in inl (omega arith)
  over x y z (inr a) (inr b) = let e = a.0 in let f = b.0 in let g = a.1 in let h = b.1 in inr ((omega arith), (omega arith))

  higher : (v w c : Version Change) → UpTo Older v w → Older w c → UpTo Older v c
  higher v w c (inl same) below = inr (subst (λ z. Older z c) (sym same) below)
  higher v w c (inr up) below = inr (over v.window.name w.window.name c.window.name up below)

-- the top is not past
top-stays : (m : Machine) (table : ℕ) (key : List ℕ) (pin : ℕ) (floor : Name) (u : ModelUpdate) (below : List (Version Change)) → Valid m → IsPast m table key pin floor → IsTop m table key u below → covers_at pin floor (back u) ≡ false
top-stays m table key pin floor u below valid past q = false-from (covers_at pin floor (back u)) (λ is.
    let one = and_parts (u.prepared == 0) (nat_le u.version.window.durable pin && is_below u.version.window.name floor) is in
    let two = and_parts (nat_le u.version.window.durable pin) (is_below u.version.window.name floor) one.1 in
    both_ways (is_below u.version.window.name floor) (subst (λ n. is_below n floor ≡ false) (sym q.name) (past.living (name_of m q.transaction) live)) two.1) where
      live : IsLive m (name_of m q.transaction)
      live = record {
        session = q.session;
        transaction = q.transaction;
        there = q.there;
        drawn = writer-drawn m q.session q.transaction table key q.write valid q.there q.own;
        name = refl;
        counts = counts-writes q.transaction.phase q.transaction (has-writes q.transaction table key q.write q.own);
      }

-- so the trim is one of the committed versions
trimmed-parts : (m : Machine) (table : ℕ) (key : List ℕ) (pin : ℕ) (floor : Name) (top : List ModelUpdate) (held below : List (Version Change)) → Valid m → IsPast m table key pin floor → TopStands m table key top below
    → down_to (λ x. covers_at pin floor (back x)) (top ++ map model_settled held) ≡ top ++ map model_settled (down_to (λ v. covers_at pin floor (unmarked_update v)) held)
trimmed-parts m table key pin floor [] held below valid past topped = down-mapped model_settled (λ x. covers_at pin floor (back x)) held
trimmed-parts m table key pin floor (u ∷ []) held below valid past q =
    ap (λ b. if b then u ∷ [] else u ∷ down_to (λ x. covers_at pin floor (back x)) (map model_settled held)) (top-stays m table key pin floor u below valid past q)
    ∙ ap (λ l. u ∷ l) (down-mapped model_settled (λ x. covers_at pin floor (back x)) held)
trimmed-parts m table key pin floor (u ∷ (w ∷ rest)) held below valid past topped = absurd topped

pub trims-stand : TrimsStand
trims-stand m table key chain cell records pin floor valid past k = subst (λ c. KeyStands m table key c cell (Held records))
    (sym (sym (down-mapped update_in (λ x. covers_at pin floor (back x)) chain)
    ∙ (ap (down_to (λ x. covers_at pin floor (back x))) k.chained ∙ trimmed-parts m table key pin floor k.top k.held k.below valid past k.topped)))
    (trimmed-held m table key (map update_in chain) cell (Held records) pin floor valid past k)
