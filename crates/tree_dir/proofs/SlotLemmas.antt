-- Slots: what lies in one, and the list of the leaves in order.
use Rattle.std.proofs.Common.{◌≡◌, ℕ, zero, suc, ◌<◌, List, [], ◌∷◌, ◌++◌, length, get_or, set, Some, refl, sym, ap, arith}
use Rattle.std.specs.Prelude.{slice_get}
use Rattle.std.proofs.lemmas.List.{get_or-map, length-map}
use Rattle.tree_dir.specs.declared.leaf.Leaf.{Leaf}
use Rattle.tree_dir.specs.Leaves.{place_key}
use Rattle.tree_dir.specs.Order.{IsWay, rank_at, rank_key}
use Rattle.tree_dir.specs.Slots.{leaf_at, leaf_in, leaves_at, slot_changed}

pub there : (slots : List Leaf) (i : ℕ) → i < length slots → slice_get slots i ≡ Some (leaf_at slots i)
there [] i lt = absurd (omega arith)
there (x ∷ slots) zero lt = refl
there (x ∷ slots) (suc i) lt = there slots i (omega arith)

pub slot-within : (slots : List Leaf) (i : ℕ) (l : Leaf) → slice_get slots i ≡ Some l → i < length slots
slot-within [] i l e = absurd cc
slot-within (x ∷ slots) zero l e = omega arith
slot-within (x ∷ slots) (suc i) l e = let h = slot-within slots i l e in omega (arith, h)

pub leaf-read : (slots : List Leaf) (i : ℕ) (l : Leaf) → slice_get slots i ≡ Some l → leaf_at slots i ≡ l
leaf-read slots i l e = ap leaf_in e

pub rank-leaf : (slots : List Leaf) (i : ℕ) → i < length slots → rank_at slots i ≡ place_key (leaf_at slots i)
rank-leaf slots i lt = ap rank_key (there slots i lt)

-- ---- the list in order

pub view-long : (slots : List Leaf) (order : List ℕ) → length (leaves_at slots order) ≡ length order
view-long slots order = length-map order (leaf_at slots)

pub view-at : (slots : List Leaf) (order : List ℕ) (k : ℕ) (d : Leaf) → k < length order → get_or (leaves_at slots order) k d ≡ leaf_at slots (get_or order k 0)
view-at slots order k d lt = get_or-map (leaf_at slots) order k 0 d lt

-- the slot of the leaf at a place of the list
pub view-slot : (slots : List Leaf) (order : List ℕ) (k : ℕ) → IsWay slots order → k < length order → get_or order k 0 < length slots
view-slot slots order k ix lt = ix.within k 0 lt

-- the rank of the leaf at a place
pub view-rank : (slots : List Leaf) (order : List ℕ) (k : ℕ) → IsWay slots order → k < length order → rank_at slots (get_or order k 0) ≡ place_key (leaf_at slots (get_or order k 0))
view-rank slots order k ix lt = rank-leaf slots (get_or order k 0) (view-slot slots order k ix lt)

-- ---- a slot behind all others

pub leaf-pushed : (slots : List Leaf) (s : Leaf) (i : ℕ) → i < length slots → leaf_at (slots ++ s ∷ []) i ≡ leaf_at slots i
leaf-pushed [] s i lt = absurd (omega arith)
leaf-pushed (x ∷ slots) s zero lt = refl
leaf-pushed (x ∷ slots) s (suc i) lt = leaf-pushed slots s i (omega arith)

pub leaf-new : (slots : List Leaf) (s : Leaf) → leaf_at (slots ++ s ∷ []) (length slots) ≡ s
leaf-new [] s = refl
leaf-new (x ∷ slots) s = leaf-new slots s

-- ---- a change in a slot

pub changed-long : (i : ℕ) (change : Leaf → Leaf) (slots : List Leaf) → length (slot_changed i change slots) ≡ length slots
changed-long i change [] = refl
changed-long zero change (x ∷ slots) = refl
changed-long (suc i) change (x ∷ slots) = ap suc (changed-long i change slots)

pub changed-here : (i : ℕ) (change : Leaf → Leaf) (slots : List Leaf) → i < length slots → leaf_at (slot_changed i change slots) i ≡ change (leaf_at slots i)
changed-here i change [] lt = absurd (omega arith)
changed-here zero change (x ∷ slots) lt = refl
changed-here (suc i) change (x ∷ slots) lt = changed-here i change slots (omega arith)

pub changed-elsewhere : (i j : ℕ) (change : Leaf → Leaf) (slots : List Leaf) → (j ≡ i → ⊥) → leaf_at (slot_changed i change slots) j ≡ leaf_at slots j
changed-elsewhere i j change [] n = refl
changed-elsewhere zero zero change (x ∷ slots) n = absurd (n refl)
changed-elsewhere zero (suc j) change (x ∷ slots) n = refl
changed-elsewhere (suc i) zero change (x ∷ slots) n = refl
changed-elsewhere (suc i) (suc j) change (x ∷ slots) n = changed-elsewhere i j change slots (λ e. n (ap suc e))

-- each slot has the rank that it had, where the change keeps table and low key
pub changed-rank : (i : ℕ) (change : Leaf → Leaf) (slots : List Leaf) → ((l : Leaf) → place_key (change l) ≡ place_key l) → (j : ℕ) → rank_at (slot_changed i change slots) j ≡ rank_at slots j
changed-rank i change [] keeps j = refl
changed-rank zero change (x ∷ slots) keeps zero = keeps x
changed-rank zero change (x ∷ slots) keeps (suc j) = refl
changed-rank (suc i) change (x ∷ slots) keeps zero = refl
changed-rank (suc i) change (x ∷ slots) keeps (suc j) = changed-rank i change slots keeps j

pub set-changed : (i : ℕ) (change : Leaf → Leaf) (slots : List Leaf) (l : Leaf) → i < length slots → change (leaf_at slots i) ≡ l → set slots i l ≡ slot_changed i change slots
set-changed i change [] l lt e = absurd (omega arith)
set-changed zero change (x ∷ slots) l lt e = ap (λ (m : Leaf). m ∷ slots) (sym e)
set-changed (suc i) change (x ∷ slots) l lt e = ap (λ (more : List Leaf). x ∷ more) (set-changed i change slots l (omega arith) e)
