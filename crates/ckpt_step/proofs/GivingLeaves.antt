-- A leaf gave way to entries: the leaves that there are then, and what a checkpoint has of each.
use Rattle.std.proofs.Common.{◌≡◌, ◌≢◌, ◌∙◌, ◌<◌, ◌≤◌, ℕ, true, List, [], ◌∷◌, ◌++◌, length, Option, Some, None, refl, ap, sym, subst, inl, inr, arith}
use Rattle.std.specs.List.{Contains}
use Rattle.std.proofs.lemmas.Bool.{cases_eq}
use Rattle.engine_world.proofs.Homes.{same-id}
use Rattle.kv_model.specs.Holds.{Member}
use Rattle.kv_model.specs.Machine.{of_some}
use Rattle.stored.specs.TableTree.{Entry}
use Rattle.tree_dir.specs.declared.leaf.Leaf.{Leaf}
use Rattle.tree_dir.specs.GivingWay.{StandFor}
use Rattle.tree_dir.specs.Leaves.{Directory, GaveWay, IsDirectory, TakePlace, leaf_under, leaves_with}
use Rattle.tree_dir.specs.Slots.{new_leaf}
use Rattle.ckpt_step.specs.Parts.{has_rows, part_in, part_of, parts_of}
use Rattle.ckpt_step.specs.Rooms.{Written}
use Rattle.ckpt_step.proofs.Members.{none_some, some_same}
use Rattle.ckpt_step.proofs.TableLeaves.{begins_parts, contains_of, under_in}
use Rattle.ckpt_step.proofs.UnderMade.{made_entry}
use Rattle.ckpt_step.proofs.WithParts.{in_alike, own_some, part_alike}

-- The leaf gave way to others with the entries that the checkpoint had of it. had: what was written of leaves. has: the same, but of this one.
pub record IsGiving (d n : Directory) (l : Leaf) (entries : List Entry) (ids : List ℕ) (had has : Written) : Type 0 where
  pub was : IsDirectory d
  pub now : IsDirectory n
  pub there : Contains d.leaves l
  pub place : TakePlace l.id entries d.leaves
  pub gave : GaveWay d n l.id entries ids
  pub stand : StandFor d n l (leaves_with l.table ids entries)
  pub later : (id : ℕ) → d.next ≤ id → had id ≡ None
  pub others : (id : ℕ) → id ≢ l.id → has id ≡ had id
  pub part : part_in had l ≡ Some entries

-- ---- leaves that are made of entries

-- where each has its entry, all have the entries
pub parts_made : (has : Written) (table : ℕ) (ids : List ℕ) (entries : List Entry) → length ids ≡ length entries → ((m : Leaf) → Member m (leaves_with table ids entries) → part_of has m ≡ m.entry ∷ []) → parts_of has (leaves_with table ids entries) ≡ entries
parts_made has table [] [] many each = refl
parts_made has table [] (e ∷ entries) many each = absurd (omega (arith, many))
parts_made has table (id ∷ ids) [] many each = absurd (omega (arith, many))
parts_made has table (id ∷ ids) (e ∷ entries) many each =
    ap (λ (part : List Entry). part ++ parts_of has (leaves_with table ids entries)) (each (new_leaf table id e) (inl refl))
    ∙ ap (λ (rest : List Entry). e ∷ rest) (parts_made has table ids entries (omega (arith, many)) (λ m there. each m (inr there)))

module _ (d n : Directory) (l : Leaf) (entries : List Entry) (ids : List ℕ) (had has : Written) (g : IsGiving d n l entries ids had has) where
  abbrev pub made : List Leaf
  made = leaves_with l.table ids entries

  -- ---- ids

  pub below_next : (x : Leaf) → Contains d.leaves x → x.id < d.next
  below_next x c = subst (λ (y : Leaf). y.id < d.next) c.2 (g.was.below c.0 x c.1)

  -- none has the id of the leaf that is gone
  pub other_id : (x : Leaf) → Contains n.leaves x → x.id ≡ l.id → ⊥
  other_id x c same = elim (g.stand.members x c) [
    | inl old ↦ old.1 same
    | inr new ↦ omega (arith, g.stand.later x new, below_next l g.there, same)
  ]

  -- nor does a leaf of another table
  pub other_table : (x : Leaf) → Contains d.leaves x → (x.table ≡ l.table → ⊥) → x.id ≡ l.id → ⊥
  other_table x c other same = other (ap (λ (y : Leaf). y.table) (same-id d x l g.was c g.there same))

  -- ---- what is written of them

  pub same_in : (x : Leaf) → Contains n.leaves x → part_in has x ≡ part_in had x
  same_in x c = in_alike has had x (g.others x.id (other_id x c))

  pub same_of : (x : Leaf) → Contains n.leaves x → part_of has x ≡ part_of had x
  same_of x c = part_alike has had x (g.others x.id (other_id x c))

  pub whole : part_of had l ≡ entries
  whole = ap (λ (o : Option (List Entry)). of_some [] (λ (es : List Entry). es) o) g.part

  -- of a new leaf there is its entry, where that leads to rows
  pub made_of : (m : Leaf) → Contains made m → ((e : Entry) → Member e entries → has_rows e.link ≡ true) → part_of has m ≡ m.entry ∷ []
  made_of m c rows =
      let none : has m.id ≡ None = g.others m.id (other_id m (g.stand.news m c)) ∙ g.later m.id (g.stand.later m c) in
      ap (λ (o : Option (List Entry)). of_some [] (λ (es : List Entry). es) o)
      (in_alike has (λ id. None) m none ∙ own_some m.entry (rows m.entry (made_entry l.table ids entries m c)))

  -- ---- keys

  -- what lies in a leaf that stays lay in it
  pub under_was : (table : ℕ) (key : List ℕ) (x : Leaf) → Contains d.leaves x → leaf_under table key n.leaves ≡ Some x → leaf_under table key d.leaves ≡ Some x
  under_was table key x c found = by (leaf_under table key d.leaves) refl
    where
      gone : (y : Leaf) → leaf_under table key d.leaves ≡ Some y → y.id ≡ l.id → ⊥
      gone y is same =
          let at = under_in table key d.leaves y is in
          let own : y ≡ l = same-id d y l g.was (contains_of d.leaves y at.0) g.there same in
          let its : l.table ≡ table = ap (λ (z : Leaf). z.table) (sym own) ∙ (begins_parts table key y at.1).0 in
          let new = g.stand.under_new key (ap (λ (t : ℕ). leaf_under t key d.leaves) its ∙ (is ∙ ap (λ (z : Leaf). Some z) own)) in
          let met : new.0 ≡ x = some_same (sym new.2 ∙ (ap (λ (t : ℕ). leaf_under t key n.leaves) its ∙ found)) in
          omega (arith, g.stand.later new.0 new.1, below_next x c, ap (λ (z : Leaf). z.id) met)

      by : (o : Option Leaf) → leaf_under table key d.leaves ≡ o → leaf_under table key d.leaves ≡ Some x
      by None is = absurd (none_some (sym (g.stand.under_none table key is) ∙ found))
      by (Some y) is = elim (cases_eq y.id l.id) [
        | inl same ↦ absurd (gone y is same)
        | inr other ↦ is ∙ (sym (g.stand.under_other table key y other is) ∙ found)
      ]
