-- The leaves of a table, one after the other, and the tables of a catalog.
use Rattle.std.specs.Prelude.{◌≡◌, ℕ, zero, suc, ◌+◌, ◌==◌, true, List, [], ◌∷◌, ◌++◌, Some, None, slice_get, refl}
use Rattle.std.proofs.Common.{inl, inr, sym, ◌∙◌, ap, subst, arith}
use Rattle.std.proofs.lemmas.Bool.{cases_eq, cases_Bool, eq-eqb}
use Rattle.std.proofs.lemmas.Option.{same_Some}
use Rattle.item.specs.declared.Change.{Change}
use Rattle.stamp.specs.declared.Version.{Version}
use Rattle.kv_model.specs.Holds.{Member}
use Rattle.kv_model.specs.History.{Table, has_table}
use Rattle.kv_model.proofs.Finishing.{member-append}
use Rattle.reconcile.specs.declared.image.Moved.{Moved}
use Rattle.reconcile.specs.Moving.{versions_in}
use Rattle.tree_dir.specs.declared.leaf.Leaf.{Leaf}
use Rattle.tree_dir.specs.Leaves.{leaves_of}
use Rattle.hist_store.specs.declared.key_history.KeyHistory.{KeyHistory}
use Rattle.hist_gather.specs.declared.source.Source.{Source}
use Rattle.hist_gather.specs.Added.{HasMore, OfMoved}
use Rattle.hist_gather.specs.Sources.{OfLeaves, OfPlace, OfPlaces, older_at}
use Rattle.hist_gather.proofs.AddedSlots.{versions-append}
use Rattle.hist_gather.proofs.Members.{in_back, in_front}
use Rattle.hist_gather.proofs.MoreKept.{more_as, more_then, none_more}

-- ---- versions

pub moved_none : (number : ℕ) (slots : List KeyHistory) → HasMore (OfMoved number []) slots slots
moved_none number slots = none_more (OfMoved number []) slots (λ table key v of. of.1)

pub moved_more : (number : ℕ) (front : List Moved) (one : Moved) (old mid new : List KeyHistory) → HasMore (OfMoved number front) old mid → HasMore (OfMoved number (one ∷ [])) mid new → HasMore (OfMoved number (front ++ one ∷ [])) old new
moved_more number front one old mid new first next = more_then (OfMoved number front) (OfMoved number (one ∷ [])) (OfMoved number (front ++ one ∷ [])) old mid new first next
    (λ table key v of. (of.0, subst (λ (l : List (Version Change)). Member v l) (sym (versions-append key front (one ∷ []))) (in_front (versions_in key front) (versions_in key (one ∷ [])) v of.1)))
    (λ table key v of. (of.0, subst (λ (l : List (Version Change)). Member v l) (sym (versions-append key front (one ∷ []))) (in_back (versions_in key front) (versions_in key (one ∷ [])) v of.1)))
    (λ table key v of. elim (member-append v (versions_in key front) (versions_in key (one ∷ [])) (subst (λ (l : List (Version Change)). Member v l) (versions-append key front (one ∷ [])) of.1)) [
      | inl left ↦ inl (of.0, left)
      | inr right ↦ inr (of.0, right)
    ])

-- ---- leaves

module _ (from : Source) (number : ℕ) where
  pub leaves_none : (slots : List KeyHistory) → HasMore (OfLeaves from number []) slots slots
  leaves_none slots = none_more (OfLeaves from number []) slots (λ table key v of. of.2)

  pub leaves_more : (front : List Leaf) (l : Leaf) (older : List Moved) (old mid new : List KeyHistory) → ((key : List ℕ) → versions_in key older ≡ older_at from l key) → HasMore (OfLeaves from number front) old mid → HasMore (OfMoved number older) mid new
      → HasMore (OfLeaves from number (front ++ l ∷ [])) old new
  leaves_more front l older old mid new are first next = more_then (OfLeaves from number front) (OfMoved number older) (OfLeaves from number (front ++ l ∷ [])) old mid new first next
      (λ table key v of. (of.0, of.1, in_front front (l ∷ []) of.1 of.2, of.3))
      (λ table key v of. (of.0, l, in_back front (l ∷ []) l (inl refl), subst (λ (vs : List (Version Change)). Member v vs) (are key) of.1))
      (λ table key v of. elim (member-append of.1 front (l ∷ []) of.2) [
        | inl left ↦ inl (of.0, of.1, left, of.3)
        | inr right ↦ elim right [
          | inl same ↦ inr (of.0, subst (λ (vs : List (Version Change)). Member v vs) (sym (are key)) (subst (λ (x : Leaf). Member v (older_at from x key)) same of.3))
          | inr none ↦ absurd none
        ]
      ])

-- ---- tables

pub place_some : (from : Source) (place : ℕ) (t : Table) (old new : List KeyHistory) → Some t ≡ slice_get from.engine.now.hub.tables.tables place → HasMore (OfLeaves from t.number (leaves_of t.number from.engine.now.hub.dir.leaves)) old new → HasMore (OfPlace from place) old new
place_some from place t old new at more = more_as (OfLeaves from t.number (leaves_of t.number from.engine.now.hub.dir.leaves)) (OfPlace from place) old new more
    (λ table key v of. (t, sym at, of))
    (λ table key v of. let same : of.0 ≡ t = same_Some of.0 t (sym of.1 ∙ sym at) in subst (λ (u : Table). OfLeaves from u.number (leaves_of u.number from.engine.now.hub.dir.leaves) table key v) same of.2)

pub place_none : (from : Source) (place : ℕ) (slots : List KeyHistory) → None ≡ slice_get from.engine.now.hub.tables.tables place → HasMore (OfPlace from place) slots slots
place_none from place slots none = none_more (OfPlace from place) slots (λ table key v of. let clash : None ≡ Some of.0 = none ∙ of.1 in absurd cc)

pub places_none : (from : Source) (slots : List KeyHistory) → HasMore (OfPlaces from 0) slots slots
places_none from slots = none_more (OfPlaces from 0) slots (λ table key v of. let low = of.1 in absurd (omega (arith, low)))

pub places_more : (from : Source) (place : ℕ) (old mid new : List KeyHistory) → HasMore (OfPlaces from place) old mid → HasMore (OfPlace from place) mid new → HasMore (OfPlaces from (place + 1)) old new
places_more from place old mid new first next = more_then (OfPlaces from place) (OfPlace from place) (OfPlaces from (place + 1)) old mid new first next
    (λ table key v of. (of.0, (let low = of.1 in omega (arith, low)), of.2))
    (λ table key v of. (place, omega arith, of))
    (λ table key v of. elim (cases_eq of.0 place) [
      | inl same ↦ inr (subst (λ (p : ℕ). OfPlace from p table key v) same of.2)
      | inr other ↦ inl (of.0, (let low = of.1 in omega (arith, low, other)), of.2)
    ])
