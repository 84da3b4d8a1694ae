-- Leaves that were written since: one more, one less, and one under another id.
use Rattle.std.specs.Prelude.{◌≡◌, ◌⊎◌, ℕ, ◌==◌, nat_lt, true, false, List, [], ◌∷◌, refl}
use Rattle.std.proofs.Common.{inl, inr, sym, ◌∙◌, ap, subst}
use Rattle.std.proofs.lemmas.Bool.{cases_Bool, eq-eqb, eqb-true, ne_eqb, false≢true}
use Rattle.device_layout.specs.declared.addr.Addr.{Addr}
use Rattle.kv_model.specs.Holds.{Member}
use Rattle.tree_write.specs.Captures.{AreDistinct}
use Rattle.ckpt_step.specs.Holding.{gone_at, named_at, put_lone}
use Rattle.ckpt_step.specs.Lives.{addrs_in, has_at}
use Rattle.ckpt_step.specs.declared.lives.Lone.{Lone}
use Rattle.ckpt_step.proofs.Members.{all_made, all_of, map_member, member_map}

-- none of them begins at the offset
abbrev pub NoneAt : List Lone → ℕ → Type 0
NoneAt lives offset = (x : Lone) → Member x lives → x.addr.offset ≡ offset → ⊥

-- ---- looked up

has_first : (y : Lone) (lives : List Lone) (offset : ℕ) → has_at (y ∷ lives) offset ≡ false → (y.addr.offset ≡ offset → ⊥) × (has_at lives offset ≡ false)
has_first y lives offset none = elim (cases_Bool (y.addr.offset == offset)) [
  | inl here ↦ (let clash : true ≡ false = rw here at none in absurd (false≢true (sym clash)))
  | inr far ↦ ((λ same. false≢true (sym far ∙ eq-eqb y.addr.offset offset same)), rw far at none)
]

has_none : (y : Lone) (lives : List Lone) (offset : ℕ) → (y.addr.offset ≡ offset → ⊥) → has_at lives offset ≡ false → has_at (y ∷ lives) offset ≡ false
has_none y lives offset far none = let isnt : (y.addr.offset == offset) ≡ false = ne_eqb y.addr.offset offset far in rw isnt none

pub none_of : (lives : List Lone) (offset : ℕ) → has_at lives offset ≡ false → NoneAt lives offset
none_of [] offset none x there at = there
none_of (y ∷ lives) offset none x (inl same) at = (has_first y lives offset none).0 (ap (λ (z : Lone). z.addr.offset) (sym same) ∙ at)
none_of (y ∷ lives) offset none x (inr later) at = none_of lives offset (has_first y lives offset none).1 x later at

pub of_none : (lives : List Lone) (offset : ℕ) → NoneAt lives offset → has_at lives offset ≡ false
of_none [] offset none = refl
of_none (y ∷ lives) offset none = has_none y lives offset (none y (inl refl)) (of_none lives offset (λ x there. none x (inr there)))

pub has_some : (lives : List Lone) (x : Lone) → Member x lives → has_at lives x.addr.offset ≡ true
has_some lives x there = elim (cases_Bool (has_at lives x.addr.offset)) [
  | inl is ↦ is
  | inr isnt ↦ absurd (none_of lives x.addr.offset isnt x there refl)
]

distinct_with : (y : Lone) (lives : List Lone) → NoneAt lives y.addr.offset → AreDistinct (addrs_in lives) → AreDistinct (addrs_in (y ∷ lives))
distinct_with y lives none distinct = (
  all_made (λ (a : Addr). a.offset ≡ y.addr.offset → ⊥) (addrs_in lives) (λ a there at. let one = member_map {A = Lone} {B = Addr} (λ x. x.addr) a lives there in none one.0 one.1 (ap (λ (b : Addr). b.offset) (sym one.2) ∙ at)),
  distinct,
)

pub distinct_first : (y : Lone) (lives : List Lone) → AreDistinct (addrs_in (y ∷ lives)) → NoneAt lives y.addr.offset
distinct_first y lives distinct x there at = all_of (λ (a : Addr). a.offset ≡ y.addr.offset → ⊥) (addrs_in lives) x.addr distinct.0 (map_member {A = Lone} {B = Addr} (λ z. z.addr) x lives there) at

-- ---- one more

module _ (x : Lone) where
  -- before the first of them, or behind it
  more_first : (y : Lone) (lives : List Lone) → has_at (y ∷ lives) x.addr.offset ≡ false → (put_lone x (y ∷ lives) ≡ x ∷ y ∷ lives) ⊎ (put_lone x (y ∷ lives) ≡ y ∷ put_lone x lives)
  more_first y lives none =
      let isnt : (x.addr.offset == y.addr.offset) ≡ false = ne_eqb x.addr.offset y.addr.offset (λ same. (has_first y lives x.addr.offset none).0 (sym same)) in
      elim (cases_Bool (nat_lt x.addr.offset y.addr.offset)) [ inl less ↦ inl (rw (isnt, less) refl) | inr more ↦ inr (rw (isnt, more) refl) ]

  pub put_from : (lives : List Lone) (y : Lone) → has_at lives x.addr.offset ≡ false → Member y (put_lone x lives) → (y ≡ x) ⊎ Member y lives
  put_from [] y none (inl same) = inl same
  put_from [] y none (inr there) = absurd there
  put_from (z ∷ lives) y none there = elim (more_first z lives none) [
    | inl is ↦ subst (λ (l : List Lone). Member y l) is there
    | inr is ↦ elim (subst (λ (l : List Lone). Member y l) is there) [
      | inl same ↦ inr (inl same)
      | inr later ↦ elim (put_from lives y (has_first z lives x.addr.offset none).1 later) [ inl mine ↦ inl mine | inr old ↦ inr (inr old) ]
    ]
  ]

  pub put_there : (lives : List Lone) → has_at lives x.addr.offset ≡ false → Member x (put_lone x lives)
  put_there [] none = inl refl
  put_there (z ∷ lives) none = elim (more_first z lives none) [
    | inl is ↦ subst (λ (l : List Lone). Member x l) (sym is) (inl refl)
    | inr is ↦ subst (λ (l : List Lone). Member x l) (sym is) (inr (put_there lives (has_first z lives x.addr.offset none).1))
  ]

  pub put_keeps : (lives : List Lone) (y : Lone) → has_at lives x.addr.offset ≡ false → Member y lives → Member y (put_lone x lives)
  put_keeps [] y none there = absurd there
  put_keeps (z ∷ lives) y none there = elim (more_first z lives none) [
    | inl is ↦ subst (λ (l : List Lone). Member y l) (sym is) (inr there)
    | inr is ↦ subst (λ (l : List Lone). Member y l) (sym is) (elim there [ inl same ↦ inl same | inr later ↦ inr (put_keeps lives y (has_first z lives x.addr.offset none).1 later) ])
  ]

  pub put_distinct : (lives : List Lone) → has_at lives x.addr.offset ≡ false → AreDistinct (addrs_in lives) → AreDistinct (addrs_in (put_lone x lives))
  put_distinct [] none distinct = (tt, tt)
  put_distinct (z ∷ lives) none distinct = elim (more_first z lives none) [
    | inl is ↦ subst (λ (l : List Lone). AreDistinct (addrs_in l)) (sym is) (distinct_with x (z ∷ lives) (none_of (z ∷ lives) x.addr.offset none) distinct)
    | inr is ↦
        let rest = has_first z lives x.addr.offset none in
        subst (λ (l : List Lone). AreDistinct (addrs_in l)) (sym is) (distinct_with z (put_lone x lives) (far rest.1 rest.0) (put_distinct lives rest.1 distinct.1))
  ]
    where
      far : has_at lives x.addr.offset ≡ false → (z.addr.offset ≡ x.addr.offset → ⊥) → NoneAt (put_lone x lives) z.addr.offset
      far none other y there at = elim (put_from lives y none there) [
        | inl mine ↦ other (sym at ∙ ap (λ (w : Lone). w.addr.offset) mine)
        | inr old ↦ distinct_first z lives distinct y old at
      ]

  -- and not any more
  pub gone_put : (lives : List Lone) → has_at lives x.addr.offset ≡ false → gone_at (put_lone x lives) x.addr.offset ≡ lives
  gone_put [] none = let is : (x.addr.offset == x.addr.offset) ≡ true = eq-eqb x.addr.offset x.addr.offset refl in rw is refl
  gone_put (z ∷ lives) none = elim (more_first z lives none) [
    | inl is ↦ ap (λ (l : List Lone). gone_at l x.addr.offset) is ∙ (let here : (x.addr.offset == x.addr.offset) ≡ true = eq-eqb x.addr.offset x.addr.offset refl in rw here refl)
    | inr is ↦
        let rest = has_first z lives x.addr.offset none in
        let isnt : (z.addr.offset == x.addr.offset) ≡ false = ne_eqb z.addr.offset x.addr.offset rest.0 in
        ap (λ (l : List Lone). gone_at l x.addr.offset) is ∙ rw isnt (ap (λ (l : List Lone). z ∷ l) (gone_put lives rest.1))
  ]

-- ---- one less

module _ (offset : ℕ) where
  pub gone_from : (lives : List Lone) (y : Lone) → Member y (gone_at lives offset) → Member y lives
  gone_from [] y there = there
  gone_from (z ∷ lives) y there = elim (cases_Bool (z.addr.offset == offset)) [
    | inl here ↦ inr (rw here at there)
    | inr far ↦ (let own : Member y (z ∷ gone_at lives offset) = rw far at there in elim own [ inl same ↦ inl same | inr later ↦ inr (gone_from lives y later) ])
  ]

  pub gone_keeps : (lives : List Lone) (y : Lone) → Member y lives → (y.addr.offset ≡ offset → ⊥) → Member y (gone_at lives offset)
  gone_keeps [] y there other = there
  gone_keeps (z ∷ lives) y (inl same) other = let far : (z.addr.offset == offset) ≡ false = ne_eqb z.addr.offset offset (λ at. other (ap (λ (w : Lone). w.addr.offset) same ∙ at)) in rw far (inl same)
  gone_keeps (z ∷ lives) y (inr later) other = elim (cases_Bool (z.addr.offset == offset)) [
    | inl here ↦ rw here later
    | inr far ↦ rw far (inr (gone_keeps lives y later other))
  ]

  pub gone_distinct : (lives : List Lone) → AreDistinct (addrs_in lives) → AreDistinct (addrs_in (gone_at lives offset))
  gone_distinct [] distinct = tt
  gone_distinct (z ∷ lives) distinct = elim (cases_Bool (z.addr.offset == offset)) [
    | inl here ↦ rw here distinct.1
    | inr far ↦ rw far (distinct_with z (gone_at lives offset) (λ y there at. distinct_first z lives distinct y (gone_from lives y there) at) (gone_distinct lives distinct.1))
  ]

  pub gone_none : (lives : List Lone) → AreDistinct (addrs_in lives) → NoneAt (gone_at lives offset) offset
  gone_none [] distinct y there at = there
  gone_none (z ∷ lives) distinct y there at = elim (cases_Bool (z.addr.offset == offset)) [
    | inl here ↦ distinct_first z lives distinct y (rw here at there) (at ∙ sym (eqb-true z.addr.offset offset here))
    | inr far ↦ (let own : Member y (z ∷ gone_at lives offset) = rw far at there in elim own [
      | inl same ↦ false≢true (sym far ∙ eq-eqb z.addr.offset offset (ap (λ (w : Lone). w.addr.offset) (sym same) ∙ at))
      | inr later ↦ gone_none lives distinct.1 y later at
    ])
  ]

-- ---- another id

module _ (offset id : ℕ) where
  pub named_addrs : (lives : List Lone) → addrs_in (named_at lives offset id) ≡ addrs_in lives
  named_addrs [] = refl
  named_addrs (z ∷ lives) = elim (cases_Bool (z.addr.offset == offset)) [
    | inl here ↦ rw here refl
    | inr far ↦ rw far (ap (λ (l : List Addr). z.addr ∷ l) (named_addrs lives))
  ]

  -- one of before, elsewhere, or the one that begins there
  pub named_from : (lives : List Lone) (y : Lone) → AreDistinct (addrs_in lives) → Member y (named_at lives offset id) → (Member y lives × (y.addr.offset ≡ offset → ⊥)) ⊎ ((y.leaf ≡ id) × (y.addr.offset ≡ offset) × Member y.addr (addrs_in lives))
  named_from [] y distinct there = absurd there
  named_from (z ∷ lives) y distinct there = elim (cases_Bool (z.addr.offset == offset)) [
    | inl here ↦ (let own : Member y (record { leaf = id; addr = z.addr } ∷ lives) = rw here at there in elim own [
      | inl same ↦ inr (ap (λ (w : Lone). w.leaf) same, ap (λ (w : Lone). w.addr.offset) same ∙ eqb-true z.addr.offset offset here, inl (ap (λ (w : Lone). w.addr) same))
      | inr later ↦ inl (inr later, (λ at. distinct_first z lives distinct y later (at ∙ sym (eqb-true z.addr.offset offset here))))
    ])
    | inr far ↦ (let own : Member y (z ∷ named_at lives offset id) = rw far at there in elim own [
      | inl same ↦ inl (inl same, (λ at. false≢true (sym far ∙ eq-eqb z.addr.offset offset (ap (λ (w : Lone). w.addr.offset) (sym same) ∙ at))))
      | inr later ↦ elim (named_from lives y distinct.1 later) [
        | inl old ↦ inl (inr old.0, old.1)
        | inr new ↦ inr (new.0, new.1, inr new.2)
      ]
    ])
  ]

  pub named_keeps : (lives : List Lone) (y : Lone) → Member y lives → (y.addr.offset ≡ offset → ⊥) → Member y (named_at lives offset id)
  named_keeps [] y there other = there
  named_keeps (z ∷ lives) y (inl same) other = let far : (z.addr.offset == offset) ≡ false = ne_eqb z.addr.offset offset (λ at. other (ap (λ (w : Lone). w.addr.offset) same ∙ at)) in rw far (inl same)
  named_keeps (z ∷ lives) y (inr later) other = elim (cases_Bool (z.addr.offset == offset)) [
    | inl here ↦ rw here (inr later)
    | inr far ↦ rw far (inr (named_keeps lives y later other))
  ]

  pub named_there : (lives : List Lone) (y : Lone) → AreDistinct (addrs_in lives) → Member y lives → y.addr.offset ≡ offset → Member (record { leaf = id; addr = y.addr }) (named_at lives offset id)
  named_there [] y distinct there at = absurd there
  named_there (z ∷ lives) y distinct (inl same) at =
      let here : (z.addr.offset == offset) ≡ true = eq-eqb z.addr.offset offset (ap (λ (w : Lone). w.addr.offset) (sym same) ∙ at) in
      let one : Member (record { leaf = id; addr = y.addr }) (record { leaf = id; addr = z.addr } ∷ lives) = inl (ap (λ (w : Lone). let v : Lone = record { leaf = id; addr = w.addr } in v) same) in
      rw here one
  named_there (z ∷ lives) y distinct (inr later) at =
      let far : (z.addr.offset == offset) ≡ false = ne_eqb z.addr.offset offset (λ met. distinct_first z lives distinct y later (at ∙ sym met)) in
      rw far (inr (named_there lives y distinct.1 later at))
