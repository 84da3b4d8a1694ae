-- On what an engine may begin: no leaf or one, with no stamp set.
use Rattle.std.proofs.Common.{◌≡◌, ℕ, refl, ap, sym, List, [], ◌∷◌, inl, inr, subst, arith}
use Rattle.std.specs.Prelude.{None, Some, slice_get}
use Rattle.std.specs.List.{Contains}
use Rattle.std.proofs.lemmas.List.Elements.{Contains-append_cases}
use Rattle.kv_model.specs.Allowed.{StampsFit}
use Rattle.kv_model.specs.History.{Table}
use Rattle.stored.specs.TableTree.{Entry}
use Rattle.tree_dir.specs.declared.leaf.Leaf.{Leaf}
use Rattle.tree_dir.specs.Leaves.{Directory, HasTable, leaves_with, no_leaves}
use Rattle.tree_dir.proofs.Members.{split}
use Rattle.reconcile.specs.Capture.{ChainsFit}
use Rattle.leaf_frame.specs.Leaf.{HeldLeaf}
use Rattle.engine_world.specs.Leaves.{LeavesOwned}

pub none_owned : (known : List Table) → LeavesOwned known no_leaves.leaves
none_owned known l there = absurd (omega (arith, there.1))

pub unset_fit : StampsFit 0 0
unset_fit = inl refl

-- a leaf without updates
pub bare_fits : (leaf : HeldLeaf) → leaf.chains ≡ [] → ChainsFit leaf.chains
bare_fits leaf bare = subst ChainsFit (sym bare) (λ key. tt)

-- the leaves of the only table of a directory
with-of : (table : ℕ) (ids : List ℕ) (entries : List Entry) (l : Leaf) → Contains (leaves_with table ids entries) l → l.table ≡ table
with-of table [] entries l there = absurd (omega (arith, there.1))
with-of table (id ∷ ids) [] l there = absurd (omega (arith, there.1))
with-of table (id ∷ ids) (e ∷ entries) l there = elim (split (record { id = id; table = table; entry = e; frame = None }) l (leaves_with table ids entries) there) [
  | inl here ↦ ap (λ (x : Leaf). x.table) (sym here)
  | inr more ↦ with-of table ids entries l more
]

has-of : (new : Directory) (table : ℕ) (entries : List Entry) (ids : List ℕ) → HasTable no_leaves new table entries ids → (l : Leaf) → Contains new.leaves l → l.table ≡ table
has-of new table entries ids has l there = elim (Contains-append_cases (leaves_with table ids entries) [] l (subst (λ (ls : List Leaf). Contains ls l) has.leaves there)) [
  | inl its ↦ with-of table ids entries l its
  | inr none ↦ absurd (omega (arith, none.1))
]

pub only-of : (old new : Directory) (table : ℕ) (entries : List Entry) → old ≡ no_leaves → (ids : List ℕ) × HasTable old new table entries ids → (l : Leaf) → Contains new.leaves l → l.table ≡ table
only-of old new table entries none has l there = has-of new table entries has.0 (subst (λ (d : Directory). HasTable d new table entries has.0) none has.1) l there

pub one-owned : (known : List Table) (place : ℕ) (t : Table) (leaves : List Leaf) → slice_get known place ≡ Some t → ((l : Leaf) → Contains leaves l → l.table ≡ t.number) → LeavesOwned known leaves
one-owned known place t leaves at own l there = (place, t, at, own l there)
