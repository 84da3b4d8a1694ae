-- The trees of a running checkpoint, by place.
use Rattle.std.specs.Prelude.{◌≡◌, ◌≤◌, ◌<◌, ℕ, zero, suc, List, [], ◌∷◌, ◌++◌, length, Option, Some, None, Result, Ok, Err, OnOk, refl, slice_get, slice_index_or}
use Rattle.std.proofs.Common.{◌∙◌, ap, sym, subst}
use Rattle.std.proofs.lemmas.Option.{slice_get_read}
use Rattle.stored.specs.Records.{Root}
use Rattle.tree_open.specs.declared.place.TreePlace.{TreePlace}
use Rattle.ckpt_step.specs.Trees.{AreKept, AreLow, AreTold, placed_by, roots_of}

pub on_ok_map : {X E : Type 0} {P Q : Type 0} (r : Result X E) → OnOk r P → (P → Q) → OnOk r Q
on_ok_map (Ok x) p f = f p
on_ok_map (Err e) p f = tt

-- what a slice lends at a place
pub read_at : {A : Type 0} (xs : List A) (i : ℕ) (x : A) → i < length xs → ((d : A) → x ≡ slice_index_or xs i d) → slice_get xs i ≡ Some x
read_at xs i x lt is = slice_get_read xs (length xs) i x refl lt (is x)

-- ---- one more

pub placed_empty : (was : List TreePlace) → placed_by was [] ≡ []
placed_empty [] = refl
placed_empty (w ∷ was) = refl

pub told_none : (was : List TreePlace) (told : List (Option TreePlace)) (p : TreePlace) → slice_get was (length told) ≡ Some p → placed_by was (told ++ None ∷ []) ≡ placed_by was told ++ p ∷ []
told_none [] [] p at = absurd cc
told_none (w ∷ was) [] p at = ap (λ (l : List TreePlace). w ∷ l) (placed_empty was) ∙ ap opened at
  where
    opened : Option TreePlace → List TreePlace
    opened None = []
    opened (Some x) = x ∷ []
told_none [] (None ∷ told) p at = absurd cc
told_none [] (Some q ∷ told) p at = absurd cc
told_none (w ∷ was) (None ∷ told) p at = ap (λ (l : List TreePlace). w ∷ l) (told_none was told p at)
told_none (w ∷ was) (Some q ∷ told) p at = ap (λ (l : List TreePlace). q ∷ l) (told_none was told p at)

pub told_some : (was : List TreePlace) (told : List (Option TreePlace)) (p : TreePlace) → placed_by was (told ++ Some p ∷ []) ≡ placed_by was told ++ p ∷ []
told_some [] [] p = refl
told_some (w ∷ was) [] p = ap (λ (l : List TreePlace). p ∷ l) (placed_empty was)
told_some [] (None ∷ told) p = told_some [] told p
told_some [] (Some q ∷ told) p = ap (λ (l : List TreePlace). q ∷ l) (told_some [] told p)
told_some (w ∷ was) (None ∷ told) p = ap (λ (l : List TreePlace). w ∷ l) (told_some was told p)
told_some (w ∷ was) (Some q ∷ told) p = ap (λ (l : List TreePlace). q ∷ l) (told_some was told p)

kept_none : (was : List TreePlace) (told : List (Option TreePlace)) (p : TreePlace) → slice_get was (length told) ≡ Some p → AreKept was told → AreKept was (told ++ None ∷ [])
kept_none [] [] p at kept = absurd cc
kept_none (w ∷ was) [] p at kept = helper was
  where
    helper : (l : List TreePlace) → AreKept l []
    helper [] = tt
    helper (x ∷ l) = tt
kept_none [] (None ∷ told) p at kept = absurd kept
kept_none [] (Some q ∷ told) p at kept = absurd cc
kept_none (w ∷ was) (None ∷ told) p at kept = kept_none was told p at kept
kept_none (w ∷ was) (Some q ∷ told) p at kept = kept_none was told p at kept

kept_some : (was : List TreePlace) (told : List (Option TreePlace)) (p : TreePlace) → AreKept was told → AreKept was (told ++ Some p ∷ [])
kept_some [] [] p kept = tt
kept_some (w ∷ was) [] p kept = helper was
  where
    helper : (l : List TreePlace) → AreKept l []
    helper [] = tt
    helper (x ∷ l) = tt
kept_some [] (None ∷ told) p kept = absurd kept
kept_some [] (Some q ∷ told) p kept = kept_some [] told p kept
kept_some (w ∷ was) (None ∷ told) p kept = kept_some was told p kept
kept_some (w ∷ was) (Some q ∷ told) p kept = kept_some was told p kept

low_more : (places : List TreePlace) (p : TreePlace) → AreLow places → p.root.level ≤ 60 → AreLow (places ++ p ∷ [])
low_more [] p low at = (at, tt)
low_more (q ∷ places) p low at = (low.0, low_more places p low.1 at)

pub low_at : (places : List TreePlace) (i : ℕ) (p : TreePlace) → AreLow places → slice_get places i ≡ Some p → p.root.level ≤ 60
low_at [] i p low at = absurd cc
low_at (q ∷ places) zero p low at = subst (λ (o : Option TreePlace). low_of o) at low.0
  where
    low_of : Option TreePlace → Type 0
    low_of None = Unit {0}
    low_of (Some x) = x.root.level ≤ 60
low_at (q ∷ places) (suc i) p low at = low_at places i p low.1 at

-- a tree that stands where it did, and one that was written
pub keeps_more : (was : List TreePlace) (told next : List (Option TreePlace)) (p : TreePlace) → slice_get was (length told) ≡ Some p → AreLow was → AreTold was told → next ≡ told ++ None ∷ [] → AreTold was next
keeps_more was told next p at low are is = subst (λ (l : List (Option TreePlace)). AreTold was l) (sym is) (record {
  kept = kept_none was told p at are.kept;
  low = subst AreLow (sym (told_none was told p at)) (low_more (placed_by was told) p are.low (low_at was (length told) p low at));
})

pub tells_more : (was : List TreePlace) (told next : List (Option TreePlace)) (p : TreePlace) → p.root.level ≤ 60 → AreTold was told → next ≡ told ++ Some p ∷ [] → AreTold was next
tells_more was told next p low are is = subst (λ (l : List (Option TreePlace)). AreTold was l) (sym is) (record {
  kept = kept_some was told p are.kept;
  low = subst AreLow (sym (told_some was told p)) (low_more (placed_by was told) p are.low low);
})

pub told_empty : (was : List TreePlace) → AreTold was []
told_empty [] = record { kept = tt; low = tt }
told_empty (w ∷ was) = record { kept = tt; low = tt }

pub placed_length : (was : List TreePlace) (told : List (Option TreePlace)) → AreKept was told → length (placed_by was told) ≡ length told
placed_length [] [] kept = refl
placed_length (w ∷ was) [] kept = refl
placed_length [] (None ∷ told) kept = absurd kept
placed_length [] (Some p ∷ told) kept = ap suc (placed_length [] told kept)
placed_length (w ∷ was) (None ∷ told) kept = ap suc (placed_length was told kept)
placed_length (w ∷ was) (Some p ∷ told) kept = ap suc (placed_length was told kept)

-- ---- roots

pub root_told : (was : List TreePlace) (told : List (Option TreePlace)) (i : ℕ) (p : TreePlace) (d : Root) → AreKept was told → slice_get told i ≡ Some (Some p) → slice_index_or (roots_of (placed_by was told)) i d ≡ p.root
root_told was [] i p d kept at = absurd cc
root_told [] (None ∷ told) i p d kept at = absurd kept
root_told [] (Some q ∷ told) zero p d kept at = ap root_or at
  where
    root_or : Option (Option TreePlace) → Root
    root_or (Some (Some x)) = x.root
    root_or _ = d
root_told [] (Some q ∷ told) (suc i) p d kept at = root_told [] told i p d kept at
root_told (w ∷ was) (None ∷ told) zero p d kept at = absurd cc
root_told (w ∷ was) (None ∷ told) (suc i) p d kept at = root_told was told i p d kept at
root_told (w ∷ was) (Some q ∷ told) zero p d kept at = ap root_or at
  where
    root_or : Option (Option TreePlace) → Root
    root_or (Some (Some x)) = x.root
    root_or _ = d
root_told (w ∷ was) (Some q ∷ told) (suc i) p d kept at = root_told was told i p d kept at

pub root_kept : (was : List TreePlace) (told : List (Option TreePlace)) (i : ℕ) (d : Root) → AreKept was told → slice_get told i ≡ Some None → slice_index_or (roots_of (placed_by was told)) i d ≡ slice_index_or (roots_of was) i d
root_kept was [] i d kept at = absurd cc
root_kept [] (None ∷ told) i d kept at = absurd kept
root_kept [] (Some q ∷ told) zero d kept at = absurd cc
root_kept [] (Some q ∷ told) (suc i) d kept at = root_kept [] told i d kept at
root_kept (w ∷ was) (None ∷ told) zero d kept at = refl
root_kept (w ∷ was) (None ∷ told) (suc i) d kept at = root_kept was told i d kept at
root_kept (w ∷ was) (Some q ∷ told) zero d kept at = absurd cc
root_kept (w ∷ was) (Some q ∷ told) (suc i) d kept at = root_kept was told i d kept at

pub root_past : (was : List TreePlace) (told : List (Option TreePlace)) (i : ℕ) (d : Root) → AreKept was told → slice_get told i ≡ None → slice_index_or (roots_of (placed_by was told)) i d ≡ d
root_past [] [] i d kept at = refl
root_past (w ∷ was) [] i d kept at = refl
root_past [] (None ∷ told) i d kept at = absurd kept
root_past [] (Some q ∷ told) zero d kept at = absurd cc
root_past [] (Some q ∷ told) (suc i) d kept at = root_past [] told i d kept at
root_past (w ∷ was) (None ∷ told) zero d kept at = absurd cc
root_past (w ∷ was) (None ∷ told) (suc i) d kept at = root_past was told i d kept at
root_past (w ∷ was) (Some q ∷ told) zero d kept at = absurd cc
root_past (w ∷ was) (Some q ∷ told) (suc i) d kept at = root_past was told i d kept at

pub low_or : (places : List TreePlace) (i : ℕ) (d : Root) → AreLow places → d.level ≤ 60 → (slice_index_or (roots_of places) i d).level ≤ 60
low_or [] i d low at = at
low_or (p ∷ places) zero d low at = low.0
low_or (p ∷ places) (suc i) d low at = low_or places i d low.1 at
