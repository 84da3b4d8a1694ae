-- A version that is put among others, newest first.
use Rattle.std.proofs.Common.{◌≡◌, ◌<◌, ℕ, zero, suc, refl, ap, sym, ◌∙◌, Bool, true, false, List, [], ◌∷◌, length, get_or, inl, inr, subst, arith}
use Rattle.std.specs.Prelude.{◌||◌}
use Rattle.std.specs.List.{insert}
use Rattle.std.proofs.lemmas.Bool.{cases_Bool, or_parts}
use Rattle.item.specs.declared.Change.{Change}
use Rattle.stamp.specs.declared.Version.{Version}
use Rattle.kv_model.specs.Holds.{Member}
use Rattle.kv_model.specs.History.{name_eq}
use Rattle.kv_model.specs.Ordered.{Older}
use Rattle.snapshot.specs.Past.{is_below}
use Rattle.hist_store.specs.Versions.{with_version}
use Rattle.hist_store.specs.Laws.{AddsAdd, AddsDescend}
use Rattle.hist_store.proofs.NamesInOrder.{below-is, above-is, below-over, same-name}
use Rattle.hist_store.proofs.Searching.{NoneBefore, later}

-- ---- where it goes

-- of this name, or of an older one
abbrev pub is_not_newer : Version Change → Version Change → Bool
is_not_newer v w = is_below w.window.name v.window.name || name_eq w.window.name v.window.name

newer : (v w : Version Change) → is_not_newer v w ≡ false → (is_below w.window.name v.window.name ≡ false) × (name_eq w.window.name v.window.name ≡ false)
newer v w e = or_parts (is_below w.window.name v.window.name) (name_eq w.window.name v.window.name) e

pub goes-above : (v : Version Change) (xs : List (Version Change)) (i : ℕ) (x : Version Change) → i < length xs → NoneBefore (is_not_newer v) xs i → x ≡ get_or xs i x → is_below x.window.name v.window.name ≡ true → with_version v xs ≡ insert xs i v
goes-above v [] i x lt none e is = absurd (omega (arith, lt))
goes-above v (y ∷ ys) zero x lt none e is = let here = ap (λ (w : Version Change). is_below w.window.name v.window.name) (sym e) ∙ is in rw here refl
goes-above v (y ∷ ys) (suc i) x lt none e is =
    let n = newer v y (none 0 (omega arith) x) in
    let low = n.0 in
    let other = n.1 in
    rw (low, other) (ap (λ (l : List (Version Change)). y ∷ l) (goes-above v ys i x (omega (arith, lt)) (later (is_not_newer v) y ys i none) e is))

pub stays-as-is : (v : Version Change) (xs : List (Version Change)) (i : ℕ) (x : Version Change) → i < length xs → NoneBefore (is_not_newer v) xs i → x ≡ get_or xs i x → is_below x.window.name v.window.name ≡ false → name_eq x.window.name v.window.name ≡ true → with_version v xs ≡ xs
stays-as-is v [] i x lt none e low is = absurd (omega (arith, lt))
stays-as-is v (y ∷ ys) zero x lt none e low is =
    let here = ap (λ (w : Version Change). is_below w.window.name v.window.name) (sym e) ∙ low in
    let same = ap (λ (w : Version Change). name_eq w.window.name v.window.name) (sym e) ∙ is in
    rw (here, same) refl
stays-as-is v (y ∷ ys) (suc i) x lt none e low is =
    let n = newer v y (none 0 (omega arith) x) in
    let under = n.0 in
    let other = n.1 in
    rw (under, other) (ap (λ (l : List (Version Change)). y ∷ l) (stays-as-is v ys i x (omega (arith, lt)) (later (is_not_newer v) y ys i none) e low is))

pub goes-last : (v : Version Change) (xs : List (Version Change)) → NoneBefore (is_not_newer v) xs (length xs) → with_version v xs ≡ insert xs (length xs) v
goes-last v [] none = refl
goes-last v (y ∷ ys) none =
    let n = newer v y (none 0 (omega arith) y) in
    let low = n.0 in
    let other = n.1 in
    rw (low, other) (ap (λ (l : List (Version Change)). y ∷ l) (goes-last v ys (later (is_not_newer v) y ys (length ys) none)))

-- ---- what it makes of them

pub with-within : (v : Version Change) (l : List (Version Change)) (x : Version Change) → Member x (with_version v l) → Member x (v ∷ l)
with-within v [] x at = at
with-within v (w ∷ l) x at = elim (cases_Bool (is_below w.window.name v.window.name)) [
  | inl low ↦ rw low at at
  | inr high ↦ elim (cases_Bool (name_eq w.window.name v.window.name)) [
    | inl same ↦ inr (rw (high, same) at at)
    | inr other ↦ elim (rw (high, other) at at) [
      | inl e ↦ inr (inl e)
      | inr deep ↦ elim (with-within v l x deep) [ inl e ↦ inl e | inr there ↦ inr (inr there) ]
    ]
  ]
]

with-old : (v : Version Change) (l : List (Version Change)) (x : Version Change) → Member x l → Member x (with_version v l)
with-old v [] x at = absurd at
with-old v (w ∷ l) x at = elim (cases_Bool (is_below w.window.name v.window.name)) [
  | inl low ↦ rw low (inr at)
  | inr high ↦ elim (cases_Bool (name_eq w.window.name v.window.name)) [
    | inl same ↦ rw (high, same) at
    | inr other ↦ rw (high, other) (elim at [ inl e ↦ inl e | inr deep ↦ inr (with-old v l x deep) ])
  ]
]

with-new : (v : Version Change) (l : List (Version Change)) → (w : Version Change) × Member w (with_version v l) × (w.window.name ≡ v.window.name)
with-new v [] = (v, inl refl, refl)
with-new v (w ∷ l) = elim (cases_Bool (is_below w.window.name v.window.name)) [
  | inl low ↦ rw low (v, inl refl, refl)
  | inr high ↦ elim (cases_Bool (name_eq w.window.name v.window.name)) [
    | inl same ↦ rw (high, same) (w, inl refl, same-name w.window.name v.window.name same)
    | inr other ↦ let there = with-new v l in rw (high, other) (there.0, inr there.1, there.2)
  ]
]

pub adds-add : AddsAdd
adds-add v l = record {
  fewer = λ x at. with-within v l x at;
  old = λ x at. with-old v l x at;
  new = λ x at. elim at [
    | inl same ↦ let there = with-new v l in (there.0, there.1, there.2 ∙ ap (λ (z : Version Change). z.window.name) (sym same))
    | inr none ↦ absurd none
  ];
}

pub adds-descend : AddsDescend
adds-descend v [] d = ((λ y at. absurd at), tt)
adds-descend v (w ∷ l) d = elim (cases_Bool (is_below w.window.name v.window.name)) [
  | inl low ↦ rw low ((λ y at. under y (below-is w.window.name v.window.name low) at), d)
  | inr high ↦ elim (cases_Bool (name_eq w.window.name v.window.name)) [
    | inl same ↦ rw (high, same) d
    | inr other ↦ rw (high, other) ((λ y at. over y (above-is w.window.name v.window.name high other) (with-within v l y at)), adds-descend v l d.1)
  ]
] where
  under : (y : Version Change) → Older w v → Member y (w ∷ l) → Older y v
  under y below (inl same) = subst (λ (z : Version Change). Older z v) (sym same) below
  under y below (inr deep) = below-over y.window.name w.window.name v.window.name (d.0 y deep) below

  over : (y : Version Change) → Older v w → Member y (v ∷ l) → Older y w
  over y below (inl same) = subst (λ (z : Version Change). Older z w) (sym same) below
  over y below (inr deep) = d.0 y deep
