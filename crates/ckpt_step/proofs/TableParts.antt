-- The parts of a table's leaves, where leaves of other tables are written too.
use Rattle.std.specs.Prelude.{◌≡◌, ℕ, zero, suc, ◌<◌, ◌≤◌, length, List, [], ◌∷◌, ◌++◌, take, Option, None, Some, refl, slice_get}
use Rattle.std.specs.List.{Contains}
use Rattle.std.proofs.Common.{inl, inr, sym, ◌∙◌, ap, subst, arith}
use Rattle.device_layout.specs.declared.link.Link.{Link}
use Rattle.kv_model.specs.Holds.{Member}
use Rattle.kv_model.specs.History.{Table}
use Rattle.catalog.specs.Known.{NumbersAscend}
use Rattle.row_page.specs.Rows.{Row}
use Rattle.stored.specs.Stored.{Stored}
use Rattle.stored.specs.TableTree.{Entry, TableTree}
use Rattle.tree_dir.specs.declared.leaf.Leaf.{Leaf}
use Rattle.tree_dir.specs.Leaves.{Directory, IsDirectory, leaf_named, leaves_of}
use Rattle.tree_dir.proofs.Parting.{ids-name}
use Rattle.tree_open.specs.declared.place.TreePlace.{TreePlace}
use Rattle.tree_write.specs.Drafts.{aligned}
use Rattle.tree_write.specs.Steps.{links_in}
use Rattle.ckpt_step.specs.Goings.{HasPartsAt}
use Rattle.ckpt_step.specs.Grounds.{AreRoots, AreSince, AreWritten}
use Rattle.ckpt_step.specs.Lives.{NoneLive}
use Rattle.ckpt_step.specs.Parts.{AreOfLeaves, AreOfTables, IsPart, IsParted, has_rows, links_over, part_leaves, part_of, parts_of, with_parts}
use Rattle.ckpt_step.specs.Rooms.{Written}
use Rattle.ckpt_step.specs.Trees.{HasTreeAt, leaves_at}
use Rattle.tree_write.specs.Writes.{LeadApart}
use Rattle.ckpt_step.specs.declared.lives.Lone.{Lone}
use Rattle.ckpt_step.specs.declared.parts.LeafPart.{LeafPart}
use Rattle.ckpt_step.proofs.Apart.{filter_apart}
use Rattle.ckpt_step.proofs.ByPlace.{place_one}
use Rattle.ckpt_step.proofs.DraftingMore.{all_into, all_more}
use Rattle.ckpt_step.proofs.Members.{in_either, none_some, some_same, all_made}
use Rattle.ckpt_step.proofs.Lones.{some_live}
use Rattle.ckpt_step.proofs.OldTrees.{leaves_there}
use Rattle.ckpt_step.proofs.TableLeaves.{contains_of, in_table, member_of}
use Rattle.ckpt_step.proofs.WithParts.{part_alike, part_none, parts_alike, with_alike, with_both, with_none}

-- ---- the first of a list

pub take_at : {A : Type 0} (l : List A) (n j : ℕ) (x : A) → slice_get (take n l) j ≡ Some x → (slice_get l j ≡ Some x) × (j < n)
take_at l zero j x at = absurd (none_some at)
take_at [] (suc n) j x at = absurd (none_some at)
take_at (y ∷ l) (suc n) zero x at = (at, omega arith)
take_at (y ∷ l) (suc n) (suc j) x at = let one = take_at l n j x at in (one.0, omega (arith, one.1))

pub at_take : {A : Type 0} (l : List A) (n j : ℕ) (x : A) → slice_get l j ≡ Some x → j < n → slice_get (take n l) j ≡ Some x
at_take l zero j x at lt = absurd (omega (arith, lt))
at_take [] (suc n) j x at lt = absurd (none_some at)
at_take (y ∷ l) (suc n) zero x at lt = at
at_take (y ∷ l) (suc n) (suc j) x at lt = at_take l n j x at (omega (arith, lt))

pub take_few : {A : Type 0} (l : List A) (n : ℕ) → length (take n l) ≤ n
take_few l zero = omega arith
take_few [] (suc n) = omega arith
take_few (x ∷ l) (suc n) = omega (arith, take_few l n)

-- each of these tables has the same place among those
abbrev pub AreAmong : List Table → List Table → Type 0
AreAmong known every = (j : ℕ) (u : Table) → slice_get known j ≡ Some u → slice_get every j ≡ Some u

-- ---- parts that are alike

pub parted_alike : (lives : List Lone) (leaves : List Leaf) (table : ℕ) (written next : Written) (place : TreePlace) (tree : TableTree) → ((l : Leaf) → Contains leaves l → l.table ≡ table → written l.id ≡ next l.id) → IsParted lives leaves table written place tree → IsParted lives leaves table next place tree
parted_alike lives leaves table written next place tree same parted = record {
  joined = λ none. parted.joined none ∙ ap links_in (parts_alike written next (leaves_of table leaves) (all_made (λ (l : Leaf). written l.id ≡ next l.id) (leaves_of table leaves) (λ l there. let in_it = in_table table leaves l there in same l (contains_of leaves l in_it.0) in_it.1)));
  among = λ l there own dead e mine. parted.among l there own dead e (subst (λ (part : List Entry). Member e part) (sym (part_alike written next l (same l there own))) mine);
  parts = λ l there own dead. subst (λ (part : List Entry). IsPart leaves table l part (part_leaves place tree part)) (part_alike written next l (same l there own)) (parted.parts l there own dead);
}

-- ---- leaves of two tables

-- of one id there is one
pub same_leaf : (d : Directory) → IsDirectory d → (x l : Leaf) → Contains d.leaves x → Contains d.leaves l → x.id ≡ l.id → x ≡ l
same_leaf d is x l one two same = some_same (sym (ids-name d is x one) ∙ (ap (λ (n : ℕ). leaf_named n d.leaves) same ∙ ids-name d is l two))

module _ (d : Directory) (is : IsDirectory d) (every : List Table) (next : ℕ) (ascend : NumbersAscend 1 every next) where
  pub one_table : (x l : Leaf) (i j : ℕ) (t u : Table) → Contains d.leaves x → Contains d.leaves l → x.id ≡ l.id → x.table ≡ t.number → l.table ≡ u.number → slice_get every i ≡ Some t → slice_get every j ≡ Some u → i ≡ j
  one_table x l i j t u one two same own its at also =
      place_one 1 every next i j t u ascend at also (sym own ∙ (ap (λ (y : Leaf). y.table) (same_leaf d is x l one two same) ∙ its))

  in_dir : (table : ℕ) (x : Leaf) → Contains (leaves_of table d.leaves) x → Contains d.leaves x × (x.table ≡ table)
  in_dir table x there = let one = in_table table d.leaves x (member_of (leaves_of table d.leaves) x there) in (contains_of d.leaves x one.0, one.1)

  module _ (known : List Table) (front : AreAmong known every) (had : Written) (i : ℕ) (t : Table) (at : slice_get known i ≡ Some t) (more own_more : List LeafPart) (of_first : AreOfTables (take i known) d.leaves more) (of_table : AreOfLeaves (leaves_of t.number d.leaves) own_more) where
    -- what is written of this table leaves the parts of the others
    pub others_alike : (j : ℕ) (u : Table) → slice_get known j ≡ Some u → (j ≡ i → ⊥) → (l : Leaf) → Contains d.leaves l → l.table ≡ u.number → with_parts had more l.id ≡ with_parts had (more ++ own_more) l.id
    others_alike j u also other l there own = sym (with_both had more own_more l.id ∙ with_none (with_parts had more) own_more l.id
        (all_into (λ (p : LeafPart). (x : Leaf) × Contains (leaves_of t.number d.leaves) x × (x.id ≡ p.leaf)) (λ (p : LeafPart). p.leaf ≡ l.id → ⊥) own_more
        (λ p one same. let x = in_dir t.number one.0 one.1 in other (sym (one_table one.0 l i j t u x.0 there (one.2 ∙ same) x.1 own (front i t at) (front j u also)))) of_table))

    -- what was written of others leaves those of this one
    pub own_alike : (l : Leaf) → Contains d.leaves l → l.table ≡ t.number → with_parts had own_more l.id ≡ with_parts had (more ++ own_more) l.id
    own_alike l there own = sym (with_both had more own_more l.id ∙ with_alike (with_parts had more) had own_more l.id (with_none had more l.id
        (all_into (λ (p : LeafPart). (j : ℕ) × (u : Table) × (slice_get (take i known) j ≡ Some u) × ((x : Leaf) × Contains (leaves_of u.number d.leaves) x × (x.id ≡ p.leaf))) (λ (p : LeafPart). p.leaf ≡ l.id → ⊥) more
        (λ p one same.
        let first = take_at known i one.0 one.1 one.2 in
        let x = in_dir one.1.number one.3.0 one.3.1 in
        let place = one_table one.3.0 l one.0 i one.1 t x.0 there (one.3.2 ∙ same) x.1 own (front one.0 one.1 first.0) (front i t at) in
        omega (arith, first.1, place)) of_first)))

    -- and all are of the first tables
    pub of_more : AreOfTables (take (suc i) known) d.leaves (more ++ own_more)
    of_more = all_more (λ (p : LeafPart). (j : ℕ) × (u : Table) × (slice_get (take (suc i) known) j ≡ Some u) × ((x : Leaf) × Contains (leaves_of u.number d.leaves) x × (x.id ≡ p.leaf))) more own_more
        (all_into (λ (p : LeafPart). (j : ℕ) × (u : Table) × (slice_get (take i known) j ≡ Some u) × ((x : Leaf) × Contains (leaves_of u.number d.leaves) x × (x.id ≡ p.leaf))) (λ (p : LeafPart). (j : ℕ) × (u : Table) × (slice_get (take (suc i) known) j ≡ Some u) × ((x : Leaf) × Contains (leaves_of u.number d.leaves) x × (x.id ≡ p.leaf))) more
        (λ p one. let first = take_at known i one.0 one.1 one.2 in (one.0, one.1, at_take known (suc i) one.0 one.1 first.0 (omega (arith, first.1)), one.3)) of_first)
        (all_into (λ (p : LeafPart). (x : Leaf) × Contains (leaves_of t.number d.leaves) x × (x.id ≡ p.leaf)) (λ (p : LeafPart). (j : ℕ) × (u : Table) × (slice_get (take (suc i) known) j ≡ Some u) × ((x : Leaf) × Contains (leaves_of u.number d.leaves) x × (x.id ≡ p.leaf))) own_more
        (λ p one. (i, t, at_take known (suc i) i t at (omega arith), one)) of_table)

-- ---- what the checkpoint before has of a table

none_of_parts : (had : Written) (front : List Leaf) → ((l : Leaf) → Member l front → part_of had l ≡ []) → parts_of had front ≡ []
none_of_parts had [] none = refl
none_of_parts had (l ∷ front) none = ap (λ (m : List Entry). m ++ parts_of had front) (none l (inl refl)) ∙ none_of_parts had front (λ x there. none x (inr there))

module _ (old : Option Stored) (known : List Table) (lives : List Lone) (d : Directory) (had : Written) (was : List TreePlace) (t : Table) (i : ℕ) (roots : AreRoots known lives d.leaves had was old) (made : AreWritten known lives d had was) (since : AreSince old lives d had) (at : slice_get known i ≡ Some t) (lead : LeadApart (leaves_at was i)) where
  tree_at : (place : TreePlace) → slice_get was i ≡ Some place → (tree : TableTree) × HasTreeAt old t place tree × IsParted lives d.leaves t.number had place tree
  tree_at = by old roots
    where
      by : (o : Option Stored) → AreRoots known lives d.leaves had was o → (place : TreePlace) → slice_get was i ≡ Some place → (tree : TableTree) × HasTreeAt o t place tree × IsParted lives d.leaves t.number had place tree
      by None none place place_at = absurd (none_some (ap (λ (l : List TreePlace). slice_get l i) (sym none) ∙ place_at))
      by (Some s) has place place_at = has.trees i t place at place_at

  -- where none was written since they are those of the tree, or none
  apart_dead : NoneLive lives d.leaves t.number → LeadApart (links_in (parts_of had (leaves_of t.number d.leaves)))
  apart_dead dead = by (slice_get was i) refl
    where
      by : (o : Option TreePlace) → slice_get was i ≡ o → LeadApart (links_in (parts_of had (leaves_of t.number d.leaves)))
      by (Some place) stands = subst LeadApart ((tree_at place stands).2.joined dead) (filter_apart has_rows place.leaves.items (subst LeadApart (leaves_there was i place stands) lead))
      by None stands = subst (λ (es : List Entry). LeadApart (links_in es)) (sym (none_of_parts had (leaves_of t.number d.leaves) (λ l there.
          let in_it = in_table t.number d.leaves l there in
          let mine = contains_of d.leaves l in_it.0 in
          part_none had l (made.made_since i t l at stands mine in_it.1 (dead l mine in_it.1)).0))) tt

  pub has_parts : HasPartsAt old lives d.leaves had was t i
  has_parts = record {
    tree = tree_at;
    none = λ none l there own dead. made.made_since i t l at none there own dead;
    since = since.leaf;
    apart = elim (some_live lives t.number d.leaves) [
      | inl one ↦ subst (λ (n : ℕ). LeadApart (links_in (parts_of had (leaves_of n d.leaves)))) one.own (since.apart one.leaf one.there one.live)
      | inr dead ↦ apart_dead dead
    ];
  }

-- ---- the links over which it is written

aligned_in : (was : List Link) (images : List (List Row)) (link : Link) → Member link (aligned was images) → (link.addr.offset ≡ 0 → ⊥) → Member link was
aligned_in was [] link there some = absurd there
aligned_in [] (rows ∷ images) link (inl same) some = absurd (some (ap (λ (x : Link). x.addr.offset) same))
aligned_in [] (rows ∷ images) link (inr there) some = aligned_in [] images link there some
aligned_in (x ∷ was) (rows ∷ images) link (inl same) some = inl same
aligned_in (x ∷ was) (rows ∷ images) link (inr there) some = inr (aligned_in was images link there some)

-- each that leads somewhere is one of a leaf's part
pub over_in : (had : Written) (front : List Leaf) (parts : List (List (List Row))) (link : Link) → Member link (links_over had front parts) → (link.addr.offset ≡ 0 → ⊥) → (l : Leaf) × Member l front × Member link (links_in (part_of had l))
over_in had [] parts link there some = absurd there
over_in had (f ∷ front) [] link there some = absurd there
over_in had (f ∷ front) (images ∷ parts) link there some = elim (in_either (aligned (links_in (part_of had f)) images) (links_over had front parts) link there) [
  | inl own ↦ (f, inl refl, aligned_in (links_in (part_of had f)) images link own some)
  | inr later ↦ let rest = over_in had front parts link later some in (rest.0, inr rest.1, rest.2)
]
