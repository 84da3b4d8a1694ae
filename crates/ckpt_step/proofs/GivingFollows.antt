-- A leaf gave way to entries: what the checkpoint has of each leaf that there is then.
use Rattle.std.proofs.Common.{◌≡◌, ◌∙◌, ℕ, true, false, List, [], ◌∷◌, Option, Some, None, ap, sym, subst, inl, inr}
use Rattle.std.specs.Prelude.{slice_get}
use Rattle.std.specs.List.{Contains}
use Rattle.std.proofs.lemmas.Bool.{false≢true}
use Rattle.checkpoint_core.specs.Stands.{HasStill}
use Rattle.engine_world.specs.Worlds.{World}
use Rattle.kv_model.specs.History.{Table}
use Rattle.kv_model.specs.Machine.{of_some}
use Rattle.row_page.specs.Rows.{Row}
use Rattle.stamp.specs.declared.Name.{Name}
use Rattle.stored.specs.Stored.{Stored}
use Rattle.stored.specs.TableTree.{Entry, TableTree}
use Rattle.stored.specs.Tree.{join}
use Rattle.tree_dir.specs.declared.leaf.Leaf.{Leaf}
use Rattle.tree_dir.specs.Leaves.{Directory}
use Rattle.tree_open.specs.declared.place.TreePlace.{TreePlace}
use Rattle.tree_write.specs.Drafts.{HasLeaves}
use Rattle.ckpt_step.specs.Floors.{AreOnDevice, FollowsFrom, IsLeafBefore}
use Rattle.ckpt_step.specs.Lives.{is_live}
use Rattle.ckpt_step.specs.Parts.{AreBelowFloor, IsPart, part_leaves, part_of}
use Rattle.ckpt_step.specs.Rooms.{Written}
use Rattle.ckpt_step.specs.Trees.{HasTreeAt, table_root}
use Rattle.ckpt_step.specs.declared.lives.Lone.{Lone}
use Rattle.ckpt_step.proofs.GivingLeaves.{IsGiving, below_next, made, other_id, same_in, same_of, under_was}
use Rattle.ckpt_step.proofs.GivingParts.{part_still}
use Rattle.ckpt_step.proofs.GivingShelf.{IsTreeOf, new_before, shelf_new, shelf_old, shelf_then}
use Rattle.ckpt_step.proofs.Members.{some_same}
use Rattle.ckpt_step.proofs.Pairs.{one_index}
use Rattle.ckpt_step.proofs.WithParts.{lies_alike}

-- a checkpoint has one tree of a table
pub one_tree : (old : Option Stored) (seen : List ℕ) (t u : Table) (p q : TreePlace) (tree other : TableTree) → HasStill old seen → HasTreeAt old t p tree → HasTreeAt old u q other → t.number ≡ u.number → tree ≡ other
one_tree None seen t u p q tree other on at also same = absurd at
one_tree (Some s) seen t u p q tree other on at also same =
    let index = one_index s.kept.tables at.0.0 also.0.0 (table_root t p.root) (table_root u q.root) on.whole.is_record.once at.0.1 also.0.1 same in
    some_same (sym at.0.2 ∙ (ap (λ (k : ℕ). slice_get s.trees k) index ∙ also.0.2))

-- the leaf's table has this place and this tree, and no other
abbrev pub IsOnly : Option Stored → List Table → List TreePlace → ℕ → TreePlace → TableTree → Type 0
IsOnly old known places table place tree = (i : ℕ) (t : Table) (p : TreePlace) (other : TableTree) → slice_get known i ≡ Some t → slice_get places i ≡ Some p → HasTreeAt old t p other → t.number ≡ table → (p ≡ place) × (other ≡ tree)

module _ (d n : Directory) (l : Leaf) (entries : List Entry) (ids : List ℕ) (had has : Written) (g : IsGiving d n l entries ids had has) (seen : List ℕ) (w : World) (lives : List Lone) (place : TreePlace) (tree : TableTree) (own : IsTreeOf seen w.machine lives d.leaves l.table had place tree)
    (dead : (x : Leaf) → Contains (made d n l entries ids had has g) x → is_live lives x ≡ false)
    (old : Option Stored) (known : List Table) (places : List TreePlace) (floor : Name) (follows : FollowsFrom old known lives d.leaves had places floor w) (only : IsOnly old known places l.table place tree) where
  abbrev shelf : ℕ → List Row
  shelf = shelf_then d n l entries ids had has g seen w.machine lives place tree own w.shelf

  shelf_same : (x : Leaf) → Contains d.leaves x → shelf x.id ≡ w.shelf x.id
  shelf_same x c = shelf_old d n l entries ids had has g seen w.machine lives place tree own w.shelf x.id (below_next d n l entries ids had has g x c)

  -- a leaf that stays
  stayed : (table : ℕ) (x : Leaf) (rows : List Row) → Contains d.leaves x → Contains n.leaves x → IsLeafBefore w.machine w.shelf floor d.leaves had table x rows → IsLeafBefore w.machine shelf floor n.leaves has table x rows
  stayed table x rows c now was = record {
    before = λ part is below key under. was.before part (sym (same_in d n l entries ids had has g x now) ∙ is) below key (under_was d n l entries ids had has g table key x c under);
    same = λ lies. was.same (lies_alike had has x (sym (g.others x.id (other_id d n l entries ids had has g x now))) lies) ∙ sym (shelf_same x c);
  }

  -- a new one
  came : (x : Leaf) → Contains (made d n l entries ids had has g) x → IsLeafBefore w.machine shelf floor n.leaves has l.table x (join (part_leaves place tree (part_of has x)))
  came x c = record {
    before = λ part is below.
        let one : part_of has x ≡ part = ap (λ (o : Option (List Entry)). of_some [] (λ (es : List Entry). es) o) is in
        new_before d n l entries ids had has g seen w.machine lives place tree own dead floor x c (subst (λ (es : List Entry). AreBelowFloor floor es) (sym one) below);
    same = λ lies. sym (shelf_new d n l entries ids had has g seen w.machine lives place tree own w.shelf x c);
  }

  leaf_then : (i : ℕ) (t : Table) (p : TreePlace) (other : TableTree) (x : Leaf) → slice_get known i ≡ Some t → slice_get places i ≡ Some p → HasTreeAt old t p other → Contains n.leaves x → x.table ≡ t.number → is_live lives x ≡ false
      → IsLeafBefore w.machine shelf floor n.leaves has t.number x (join (part_leaves p other (part_of has x)))
  leaf_then i t p other x at stands there c its none = elim (g.stand.members x c) [
    | inl was ↦
        subst (λ (part : List Entry). IsLeafBefore w.machine shelf floor n.leaves has t.number x (join (part_leaves p other part))) (sym (same_of d n l entries ids had has g x c))
        (stayed t.number x (join (part_leaves p other (part_of had x))) was.0 c (follows.leaf i t p other x at stands there was.0 its none))
    | inr new ↦
        let number : l.table ≡ t.number = sym (g.stand.own x new).0 ∙ its in
        let one = only i t p other at stands there (sym number) in
        subst (λ (k : ℕ). IsLeafBefore w.machine shelf floor n.leaves has k x (join (part_leaves p other (part_of has x)))) number
        (subst (λ (q : TreePlace). IsLeafBefore w.machine shelf floor n.leaves has l.table x (join (part_leaves q other (part_of has x)))) (sym one.0)
        (subst (λ (y : TableTree). IsLeafBefore w.machine shelf floor n.leaves has l.table x (join (part_leaves place y (part_of has x)))) (sym one.1) (came x new)))
  ]

  since_then : (x : Leaf) → Contains n.leaves x → is_live lives x ≡ true → IsLeafBefore w.machine shelf floor n.leaves has x.table x (shelf x.id)
  since_then x c live = elim (g.stand.members x c) [
    | inl was ↦ subst (λ (rows : List Row). IsLeafBefore w.machine shelf floor n.leaves has x.table x rows) (sym (shelf_same x was.0)) (stayed x.table x (w.shelf x.id) was.0 c (follows.since x was.0 live))
    | inr new ↦ absurd (false≢true (sym (dead x new) ∙ live))
  ]

  pub follows_then : FollowsFrom old known lives n.leaves has places floor (record w { shelf = shelf })
  follows_then = record { respects = follows.respects; leaf = leaf_then; since = since_then }

  -- what was written since is on the device
  pub device_then : AreOnDevice seen lives d.leaves w.shelf → AreOnDevice seen lives n.leaves shelf
  device_then device x c live = elim (g.stand.members x c) [
    | inr new ↦ absurd (false≢true (sym (dead x new) ∙ live))
    | inl was ↦
        let one = device x was.0 live in
        let other = other_id d n l entries ids had has g x c in
        record {
          is = subst (λ (rows : List Row). IsPart n.leaves x.table x (x.entry ∷ []) (rows ∷ [])) (sym (shelf_same x was.0)) (part_still d n l entries ids had has g x.table x other (x.entry ∷ []) (w.shelf x.id ∷ []) one.is);
          on = subst (λ (rows : List Row). HasLeaves seen (x.entry ∷ []) (rows ∷ [])) (sym (shelf_same x was.0)) one.on;
        }
  ]
