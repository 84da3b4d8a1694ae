-- The leaves of a table, as they go on, and what a checkpoint has of them.
use Rattle.std.proofs.Common.{◌≡◌, ◌∙◌, ℕ, Bool, true, false, List, [], ◌∷◌, ◌++◌, Option, Some, None, refl, ap, sym, subst, inl, inr, arith}
use Rattle.std.specs.Prelude.{◌==◌, ◌&&◌, not, if◌then◌else◌, IfSome}
use Rattle.std.specs.List.{Contains}
use Rattle.std.specs.Option.{option_or}
use Rattle.std.proofs.lemmas.Option.{same_Some}
use Rattle.row_page.specs.Rows.{Row, is_below}
use Rattle.stored.specs.TableTree.{Entry, first_key}
use Rattle.stored.specs.Tree.{join}
use Rattle.kv_model.specs.Machine.{of_some}
use Rattle.tree_dir.specs.declared.leaf.Leaf.{Leaf}
use Rattle.tree_dir.specs.Leaves.{Directory, IsDirectory, begins_by, leaf_under, leaves_of}
use Rattle.tree_dir.proofs.Members.{head-in, later, split}
use Rattle.engine_world.proofs.Homes.{same-id}
use Rattle.engine.specs.Directories.{LeafGoesOn, LeavesGoOn}
use Rattle.ckpt_step.specs.Floors.{IsAsItLies}
use Rattle.ckpt_step.specs.Parts.{IsPart, LieIn, own_part, part_in, part_of, parts_of}
use Rattle.ckpt_step.specs.Rooms.{Written}
use Rattle.ckpt_step.proofs.TableLeaves.{contains_of, in_table, member_of, table_in, under_in, under_of}

-- ---- the leaves of a table

pub of_there : (table : ℕ) (leaves : List Leaf) (l : Leaf) → Contains (leaves_of table leaves) l → Contains leaves l
of_there table leaves l c = contains_of leaves l (in_table table leaves l (member_of (leaves_of table leaves) l c)).0

pub there_of : (table : ℕ) (leaves : List Leaf) (l : Leaf) → Contains leaves l → l.table ≡ table → Contains (leaves_of table leaves) l
there_of table leaves l c its = contains_of (leaves_of table leaves) l (table_in table leaves l (member_of leaves l c) its)

-- what a key finds is one of the leaves
under_there : (table : ℕ) (key : List ℕ) (leaves : List Leaf) (l : Leaf) → leaf_under table key leaves ≡ Some l → Contains leaves l
under_there table key leaves l is = contains_of leaves l (under_in table key leaves l is).0

-- ---- leaves that go on

-- each of those that went on was there
pub leaf_before : (leaves next : List Leaf) (n : Leaf) → LeavesGoOn leaves next → Contains next n → (l : Leaf) × Contains leaves l × LeafGoesOn l n
leaf_before [] [] n goes there = absurd (omega (arith, there.1))
leaf_before [] (x ∷ next) n goes there = absurd goes
leaf_before (l ∷ leaves) [] n goes there = absurd goes
leaf_before (l ∷ leaves) (x ∷ next) n goes there = elim (split x n next there) [
  | inl here ↦ (l, head-in l leaves, subst (LeafGoesOn l) here goes.0)
  | inr more ↦ let was = leaf_before leaves next n goes.1 more in (was.0, later l was.0 leaves was.1, was.2)
]

-- each of those that were there went on
pub leaf_after : (leaves next : List Leaf) (l : Leaf) → LeavesGoOn leaves next → Contains leaves l → (n : Leaf) × Contains next n × LeafGoesOn l n
leaf_after [] next l goes there = absurd (omega (arith, there.1))
leaf_after (x ∷ leaves) [] l goes there = absurd goes
leaf_after (x ∷ leaves) (n ∷ next) l goes there = elim (split x l leaves there) [
  | inl here ↦ (n, head-in n next, subst (λ (y : Leaf). LeafGoesOn y n) here goes.0)
  | inr more ↦ let went = leaf_after leaves next l goes.1 more in (went.0, later n went.0 next went.1, went.2)
]

-- a leaf that is found, and the one that it goes on to
abbrev BothGo : Option Leaf → Option Leaf → Type 0
BothGo None None = Unit {0}
BothGo None (Some n) = ⊥
BothGo (Some l) None = ⊥
BothGo (Some l) (Some n) = LeafGoesOn l n

begins_on : (table : ℕ) (key : List ℕ) (l n : Leaf) → LeafGoesOn l n → begins_by table key n ≡ begins_by table key l
begins_on table key l n goes = ap (λ (k : ℕ). (k == table) && not (is_below key n.entry.key)) goes.table ∙ ap (λ (e : Entry). (l.table == table) && not (is_below key e.key)) goes.entry

or_on : (o p : Option Leaf) (b : Bool) (l n : Leaf) → BothGo o p → LeafGoesOn l n → BothGo (option_or o (if b then Some l else None)) (option_or p (if b then Some n else None))
or_on None None true l n both goes = goes
or_on None None false l n both goes = tt
or_on None (Some y) b l n both goes = absurd both
or_on (Some x) None b l n both goes = absurd both
or_on (Some x) (Some y) b l n both goes = both

-- a key finds the one where it found the other
under_on : (table : ℕ) (key : List ℕ) (leaves next : List Leaf) → LeavesGoOn leaves next → BothGo (leaf_under table key leaves) (leaf_under table key next)
under_on table key [] [] goes = tt
under_on table key [] (n ∷ next) goes = absurd goes
under_on table key (l ∷ leaves) [] goes = absurd goes
under_on table key (l ∷ leaves) (n ∷ next) goes =
    subst (λ (b : Bool). BothGo (leaf_under table key (l ∷ leaves)) (option_or (leaf_under table key next) (if b then Some n else None))) (sym (begins_on table key l n goes.0))
    (or_on (leaf_under table key leaves) (leaf_under table key next) (begins_by table key l) l n (under_on table key leaves next goes.1) goes.0)

both_to : (o p : Option Leaf) (l : Leaf) → BothGo o p → o ≡ Some l → (n : Leaf) × (p ≡ Some n) × LeafGoesOn l n
both_to None p l both is = absurd cc
both_to (Some x) None l both is = absurd both
both_to (Some x) (Some n) l both is = (n, refl, subst (λ (y : Leaf). LeafGoesOn y n) (same_Some x l is) both)

both_from : (o p : Option Leaf) (n : Leaf) → BothGo o p → p ≡ Some n → (l : Leaf) × (o ≡ Some l) × LeafGoesOn l n
both_from o None n both is = absurd cc
both_from None (Some x) n both is = absurd both
both_from (Some l) (Some x) n both is = (l, refl, subst (λ (y : Leaf). LeafGoesOn l y) (same_Some x n is) both)

module _ (d next : Directory) (table : ℕ) (on : LeavesGoOn (leaves_of table d.leaves) (leaves_of table next.leaves)) (l n : Leaf) (goes : LeafGoesOn l n) where
  -- what the leaf held of keys, the later one holds
  pub under_to : IsDirectory next → Contains next.leaves n → (key : List ℕ) → leaf_under table key d.leaves ≡ Some l → leaf_under table key next.leaves ≡ Some n
  under_to is there key found =
      let one = both_to (leaf_under table key (leaves_of table d.leaves)) (leaf_under table key (leaves_of table next.leaves)) l (under_on table key (leaves_of table d.leaves) (leaves_of table next.leaves) on) (sym (under_of table key d.leaves) ∙ found) in
      let now : leaf_under table key next.leaves ≡ Some one.0 = under_of table key next.leaves ∙ one.1 in
      now ∙ ap (λ (x : Leaf). Some x) (same-id next one.0 n is (under_there table key next.leaves one.0 now) there (one.2.id ∙ sym goes.id))

  -- and no others
  pub under_from : IsDirectory d → Contains d.leaves l → (key : List ℕ) → leaf_under table key next.leaves ≡ Some n → leaf_under table key d.leaves ≡ Some l
  under_from is there key found =
      let one = both_from (leaf_under table key (leaves_of table d.leaves)) (leaf_under table key (leaves_of table next.leaves)) n (under_on table key (leaves_of table d.leaves) (leaves_of table next.leaves) on) (sym (under_of table key next.leaves) ∙ found) in
      let was : leaf_under table key d.leaves ≡ Some one.0 = under_of table key d.leaves ∙ one.1 in
      was ∙ ap (λ (x : Leaf). Some x) (same-id d one.0 l is (under_there table key d.leaves one.0 was) there (sym one.2.id ∙ goes.id))

  lie_on : IsDirectory next → Contains next.leaves n → (rows : List Row) → LieIn d.leaves table l rows → LieIn next.leaves table n rows
  lie_on is there [] lie = tt
  lie_on is there (r ∷ rows) lie = (under_to is there r.0 lie.0, lie_on is there rows lie.1)

  -- a part of the one is a part of the other
  pub part_on : IsDirectory next → Contains next.leaves n → (part : List Entry) (images : List (List Row)) → IsPart d.leaves table l part images → IsPart next.leaves table n part images
  part_on is there part images was = record {
    fit = was.fit;
    climbs = was.climbs;
    begins = subst (λ (e : Entry). IfSome (first_key part) (λ key. key ≡ e.key)) (sym goes.entry) was.begins;
    stay = was.stay;
    full = was.full;
    some = was.some;
    rows_fit = was.rows_fit;
    lie = lie_on is there (join images) was.lie;
  }

-- ---- what a checkpoint has of them

pub part_same : (written : Written) (l n : Leaf) → LeafGoesOn l n → part_in written n ≡ part_in written l
part_same written l n goes = ap (λ (id : ℕ). option_or (written id) (own_part n.entry)) goes.id ∙ ap (λ (e : Entry). option_or (written l.id) (own_part e)) goes.entry

pub part_of_same : (written : Written) (l n : Leaf) → LeafGoesOn l n → part_of written n ≡ part_of written l
part_of_same written l n goes = ap (λ (o : Option (List Entry)). of_some [] (λ (es : List Entry). es) o) (part_same written l n goes)

-- one that is as it lies was so
pub lies_was : (written : Written) (l n : Leaf) → LeafGoesOn l n → IsAsItLies written n → IsAsItLies written l
lies_was written l n goes (inl free) = inl (goes.stays free)
lies_was written l n goes (inr none) = inr (ap (λ (id : ℕ). written id) (sym goes.id) ∙ none)

pub parts_same : (written : Written) (leaves next : List Leaf) → LeavesGoOn leaves next → parts_of written next ≡ parts_of written leaves
parts_same written [] [] goes = refl
parts_same written [] (n ∷ next) goes = absurd goes
parts_same written (l ∷ leaves) [] goes = absurd goes
parts_same written (l ∷ leaves) (n ∷ next) goes = ap (λ (es : List Entry). es ++ parts_of written next) (part_of_same written l n goes.0) ∙ ap (λ (es : List Entry). part_of written l ++ es) (parts_same written leaves next goes.1)
