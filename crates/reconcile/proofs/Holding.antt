-- What is left of a key, version by version.
use Rattle.std.proofs.Common.{◌≡◌, ◌+◌, ◌≤◌, ◌∙◌, ℕ, zero, suc, Bool, true, false, List, [], ◌∷◌, drop, length, Option, Some, None, refl, ap, sym, subst, arith}
use Rattle.std.specs.Prelude.{filter, slice_get}
use Rattle.std.specs.Borrow.{Bor}
use Rattle.std.proofs.lemmas.Option.{same_Some}
use Rattle.row_page.specs.Rows.{Row}
use Rattle.update_chain.specs.declared.update.Update.{Update}
use Rattle.leaf_chains.specs.declared.slot.KeyChain.{KeyChain}
use Rattle.reconcile.specs.Cells.{cell_version}
use Rattle.reconcile.specs.Making.{updates_left}
use Rattle.reconcile.specs.Merged.{chain_rows}

-- ---- one element and the others

pub drop_at : (rows : List Row) (i : ℕ) (r : Row) → slice_get rows i ≡ Some r → drop i rows ≡ r ∷ drop (suc i) rows
drop_at [] i r is = absurd cc
drop_at (x ∷ rows) zero r is = ap (λ (y : Row). y ∷ rows) (same_Some x r is)
drop_at (x ∷ rows) (suc i) r is = drop_at rows i r is

pub drop_past : (rows : List Row) (i : ℕ) → slice_get rows i ≡ None → drop i rows ≡ []
drop_past [] i is = nothing i where
  nothing : (i : ℕ) → drop {A = Row} i [] ≡ []
  nothing zero = refl
  nothing (suc i) = refl
drop_past (x ∷ rows) zero is = absurd cc
drop_past (x ∷ rows) (suc i) is = drop_past rows i is

row_of_update : (key : List ℕ) (chain : List Update) (i : ℕ) (u : Update) → slice_get chain i ≡ Some u → slice_get (chain_rows key chain) i ≡ Some (key, cell_version u.version)
row_of_update key [] i u is = absurd cc
row_of_update key (x ∷ chain) zero u is = ap (λ (y : Update). Some (key, cell_version y.version)) (same_Some x u is)
row_of_update key (x ∷ chain) (suc i) u is = row_of_update key chain i u is

no_update : (key : List ℕ) (chain : List Update) (i : ℕ) → length chain ≤ i → drop i (chain_rows key chain) ≡ []
no_update key [] zero le = refl
no_update key [] (suc i) le = refl
no_update key (x ∷ chain) zero le = absurd (omega (arith, le))
no_update key (x ∷ chain) (suc i) le = no_update key chain i (omega (arith, le))

pub next_is : (there : Option (Bor KeyChain)) (t : Bor KeyChain) (place : ℕ) (u : Update) (r : Row) → there ≡ Some t → slice_get t.now.chain place ≡ Some u → r ≡ (t.now.key, cell_version u.version)
    → updates_left there place ≡ r ∷ updates_left there (place + 1)
next_is None t place u r is at row = absurd cc
next_is (Some s) t place u r is at row =
    let same = same_Some s t is in
    let one : suc place ≡ place + 1 = omega arith in
    subst (λ (x : Bor KeyChain). drop place (chain_rows x.now.key x.now.chain) ≡ r ∷ drop (place + 1) (chain_rows x.now.key x.now.chain)) (sym same)
    (drop_at (chain_rows t.now.key t.now.chain) place r (row_of_update t.now.key t.now.chain place u at ∙ ap (λ (x : Row). Some x) (sym row))
    ∙ ap (λ (n : ℕ). r ∷ drop n (chain_rows t.now.key t.now.chain)) one)

pub none_left : (there : Option (Bor KeyChain)) (t : Bor KeyChain) (place : ℕ) → there ≡ Some t → length t.now.chain ≤ place → updates_left there place ≡ []
none_left None t place is le = refl
none_left (Some s) t place is le = subst (λ (x : Bor KeyChain). drop place (chain_rows x.now.key x.now.chain) ≡ []) (sym (same_Some s t is)) (no_update t.now.key t.now.chain place le)

-- ---- what is live of it

pub filter_dead : (p : Row → Bool) (xs : List Row) (r : Row) (ys : List Row) → xs ≡ r ∷ ys → p r ≡ false → filter p xs ≡ filter p ys
filter_dead p xs r ys is dead = ap (λ (l : List Row). filter p l) is ∙ rw dead refl

pub filter_live : (p : Row → Bool) (xs : List Row) (r : Row) (ys : List Row) → xs ≡ r ∷ ys → p r ≡ true → filter p xs ≡ r ∷ filter p ys
filter_live p xs r ys is live = ap (λ (l : List Row). filter p l) is ∙ rw live refl
