-- The order of places, each a table and a low key.
use Rattle.std.proofs.Common.{◌≡◌, ℕ, ◌<◌, ◌≤◌, true, List, ◌∷◌, refl, sym, ap, ◌∙◌, inl, inr}
use Rattle.std.specs.Ordering.{nat_cmp, is_lt, ordering_then, ordering_reverse}
use Rattle.std.specs.Prelude.{nat_eq, not}
use Rattle.std.specs.Cmp.{nat_cmp_is}
use Rattle.std.specs.Cmp.Lexicographic.{slice_cmp}
use Rattle.std.specs.declared.cmp.Ordering.{Ordering}
use Rattle.std.specs.declared.cmp.Ordering.TheVariants.{Less, Equal, Greater}
use Rattle.std.proofs.lemmas.Bool.{cases_lt, and_parts, and_from, not-true, not_from_false, false_from_ne_true, both_ways, eqb-true, eq-eqb}
use Rattle.std.proofs.lemmas.Cmp.{nat_list_cmp_total}
use Rattle.row_page.specs.Rows.{is_below}
use Rattle.tree_dir.specs.declared.leaf.Leaf.{Leaf}
use Rattle.tree_dir.specs.Leaves.{begins_by, place_key}
use Rattle.tree_dir.specs.Order.{not_above}
use Rattle.tree_dir.proofs.Pushing.{turned}

pub place-less : (a b : ℕ) (k l : List ℕ) → a < b → slice_cmp nat_cmp (a ∷ k) (b ∷ l) ≡ Less
place-less a b k l lt = ap (λ (o : Ordering). ordering_then o (slice_cmp nat_cmp k l)) (sym (nat_cmp_is a b Less lt))

pub place-more : (a b : ℕ) (k l : List ℕ) → b < a → slice_cmp nat_cmp (a ∷ k) (b ∷ l) ≡ Greater
place-more a b k l lt = ap (λ (o : Ordering). ordering_then o (slice_cmp nat_cmp k l)) (sym (nat_cmp_is a b Greater lt))

pub place-same : (a b : ℕ) (k l : List ℕ) → a ≡ b → slice_cmp nat_cmp (a ∷ k) (b ∷ l) ≡ slice_cmp nat_cmp k l
place-same a b k l e = ap (λ (o : Ordering). ordering_then o (slice_cmp nat_cmp k l)) (sym (nat_cmp_is a b Equal e))

-- tables go up with places
pub tables-up : (a b : ℕ) (k l : List ℕ) → (slice_cmp nat_cmp (a ∷ k) (b ∷ l) ≡ Greater → ⊥) → a ≤ b
tables-up a b k l n = elim (cases_lt b a) [ inl lt ↦ absurd (n (place-more a b k l lt)) | inr le ↦ le ]

pub tables-less : (a b : ℕ) (k l : List ℕ) → slice_cmp nat_cmp (a ∷ k) (b ∷ l) ≡ Less → a ≤ b
tables-less a b k l e = tables-up a b k l (λ g. let clash = sym e ∙ g in absurd cc)

pub less-from : (o : Ordering) → is_lt o ≡ true → o ≡ Less
less-from Less e = refl
less-from Equal e = absurd cc
less-from Greater e = absurd cc

pub turned-back : (a b : List ℕ) → slice_cmp nat_cmp a b ≡ Less → slice_cmp nat_cmp b a ≡ Greater
turned-back a b e = nat_list_cmp_total.antisymm b a ∙ ap ordering_reverse e

-- ---- a leaf that begins by a key

pub begins-not-above : (table : ℕ) (key : List ℕ) (l : Leaf) → begins_by table key l ≡ true → slice_cmp nat_cmp (place_key l) (table ∷ key) ≡ Greater → ⊥
begins-not-above table key l b g =
    let parts = and_parts (nat_eq l.table table) (not (is_below key l.entry.key)) b in
    let low = sym (place-same l.table table l.entry.key key (eqb-true l.table table parts.0)) ∙ g in
    both_ways (is_below key l.entry.key) (not-true (is_below key l.entry.key) parts.1) (ap is_lt (turned l.entry.key key low))

pub begins-from : (table : ℕ) (key : List ℕ) (l : Leaf) → l.table ≡ table → (slice_cmp nat_cmp (place_key l) (table ∷ key) ≡ Greater → ⊥) → begins_by table key l ≡ true
begins-from table key l same n =
    and_from (nat_eq l.table table) (not (is_below key l.entry.key)) (eq-eqb l.table table same)
    (not_from_false (is_below key l.entry.key) (false_from_ne_true (is_below key l.entry.key) (λ e.
    n (place-same l.table table l.entry.key key same ∙ turned-back key l.entry.key (less-from (slice_cmp nat_cmp key l.entry.key) e)))))

pub begins-table : (table : ℕ) (key : List ℕ) (l : Leaf) → begins_by table key l ≡ true → l.table ≡ table
begins-table table key l b = eqb-true l.table table (and_parts (nat_eq l.table table) (not (is_below key l.entry.key)) b).0

-- ---- an equal place counts as below

pub not-greater : (o : Ordering) → not_above o ≡ Less → o ≡ Greater → ⊥
not-greater Less e g = absurd cc
not-greater Equal e g = absurd cc
not-greater Greater e g = absurd cc

pub is-greater : (o : Ordering) → not_above o ≡ Greater → o ≡ Greater
is-greater Less e = absurd cc
is-greater Equal e = absurd cc
is-greater Greater e = refl
