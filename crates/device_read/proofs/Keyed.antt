-- The keys of rows that were not removed, with their values.
use Rattle.std.proofs.Common.{◌≡◌, ℕ, true, List, [], ◌∷◌, ◌++◌, Option, Some, refl, sym, ap, subst, ◌∙◌, inl, inr}
use Rattle.std.specs.Prelude.{bytes_eq}
use Rattle.std.specs.List.{AllByRecursion}
use Rattle.std.proofs.lemmas.Bool.{cases_Bool}
use Rattle.std.proofs.lemmas.List.Concat.{flat_map-append}
use Rattle.kv_model.specs.Holds.{Member}
use Rattle.kv_model.specs.Rows.{Up}
use Rattle.row_page.specs.declared.change.CellChange.TheVariants.{Put, Remove}
use Rattle.kv_model.specs.History.{put_of}
use Rattle.row_page.specs.Changes.{PageChange, change_in}
use Rattle.row_page.specs.Rows.{Row, is_below, Ascends}
use Rattle.row_page.proofs.Ascending.{all_above, below_differs}
use Rattle.reconcile.proofs.Keyed.{key_self, same_key}
use Rattle.stored.specs.Tree.{join}
use Rattle.device_read.specs.Rows.{KeyValue, InOrder, put_as, put_row, put_rows, rows_in}
use Rattle.device_read.specs.Steps.{value_shown}
use Rattle.device_read.proofs.Lists.{member_back, member_front, member_parts}

pub rows_joined : (pages : List (List Row)) → rows_in pages ≡ put_rows (join pages)
rows_joined [] = refl
rows_joined (p ∷ pages) = ap (λ (l : List KeyValue). put_rows p ++ l) (rows_joined pages) ∙ sym (flat_map-append put_row p (join pages))

-- ---- those that ascend

own_key : (key k v : List ℕ) (change : PageChange) → Member (k, v) (put_as key change) → (k ≡ key) × (change ≡ Put v)
own_key key k v (Put value) (inl same) = (ap (λ (x : KeyValue). x.0) same, ap (λ (x : KeyValue). Put x.1) (sym same))
own_key key k v (Put value) (inr none) = absurd none
own_key key k v Remove there = absurd there

pub put_above : (least : List ℕ) (rows : List Row) → AllByRecursion (λ (r : Row). is_below least r.0 ≡ true) rows → (k v : List ℕ) → Member (k, v) (put_rows rows) → is_below least k ≡ true
put_above least [] all k v there = absurd there
put_above least (r ∷ rows) all k v there = elim (member_parts (put_row r) (put_rows rows) (k, v) there) [
  | inl here ↦ subst (λ (x : List ℕ). is_below least x ≡ true) (sym (own_key r.0 k v r.1.change here).0) all.0
  | inr later ↦ put_above least rows all.1 k v later
]

pub puts_ascend : (before : Option (List ℕ)) (rows : List Row) → Ascends before rows → InOrder Up (put_rows rows)
puts_ascend before [] up = tt
puts_ascend before (r ∷ rows) up = with_first r.1.change (puts_ascend (Some r.0) rows up.1)
  where
    with_first : (change : PageChange) → InOrder Up (put_rows rows) → InOrder Up (put_as r.0 change ++ put_rows rows)
    with_first (Put value) rest = ((λ later there. put_above r.0 rows (all_above r.0 rows up.1) later.0 later.1 there), rest)
    with_first Remove rest = rest

-- ---- what they say of a key

own_there : (key k v : List ℕ) (change : PageChange) → key ≡ k → put_of (change_in change) ≡ Some v → Member (k, v) (put_as key change)
own_there key k v (Put value) same is =
    let one : value ≡ v = cc in
    inl (sym (ap (λ (x : List ℕ). (x, value)) same ∙ ap (λ (x : List ℕ). (k, x)) one))
own_there key k v Remove same is = absurd cc

pub to_value : (before : Option (List ℕ)) (rows : List Row) (k v : List ℕ) → Ascends before rows → Member (k, v) (put_rows rows) → value_shown k rows ≡ Some v
to_value before [] k v up there = absurd there
to_value before (r ∷ rows) k v up there = elim (member_parts (put_row r) (put_rows rows) (k, v) there) [
  | inl here ↦
      let own = own_key r.0 k v r.1.change here in
      let same : bytes_eq r.0 k ≡ true = subst (λ (x : List ℕ). bytes_eq r.0 x ≡ true) (sym own.0) (key_self r.0) in
      rw same (ap (λ (c : PageChange). put_of (change_in c)) own.1)
  | inr later ↦ rw (below_differs r.0 k (put_above r.0 rows (all_above r.0 rows up.1) k v later)) (to_value (Some r.0) rows k v up.1 later)
]

pub from_value : (rows : List Row) (k v : List ℕ) → value_shown k rows ≡ Some v → Member (k, v) (put_rows rows)
from_value [] k v is = absurd cc
from_value (r ∷ rows) k v is = elim (cases_Bool (bytes_eq r.0 k)) [
  | inl same ↦ member_front (put_row r) (put_rows rows) (k, v) (own_there r.0 k v r.1.change (same_key r.0 k same) (rw same at is))
  | inr other ↦ member_back (put_row r) (put_rows rows) (k, v) (from_value rows k v (rw other at is))
]
