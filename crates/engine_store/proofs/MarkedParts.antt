-- What is kept of leaves of which an opening may take something out is what their own entries say: the parts of all leaves are as if nothing was kept.
use Rattle.std.proofs.Common.{◌≡◌, ◌⊎◌, ◌≤◌, ◌<◌, ℕ, zero, suc, false, List, [], ◌∷◌, ◌++◌, get_or, length, Option, Some, None, refl, sym, ap, ap₂, subst, ◌∙◌, inl, inr, arith}
use Rattle.std.specs.Prelude.{◌==◌, if◌then◌else◌, slice_get, IfOk, Result, Ok, Err}
use Rattle.failure.specs.declared.NoMemory.{NoMemory}
use Rattle.std.specs.List.{Contains}
use Rattle.std.specs.Option.{option_or}
use Rattle.std.proofs.lemmas.Bool.{cases_Bool, eq-eqb, eqb-true, false≢true}
use Rattle.std.proofs.lemmas.List.Elements.{All-contains}
use Rattle.kv_model.specs.History.{Table}
use Rattle.kv_model.specs.Holds.{Member}
use Rattle.kv_model.specs.Machine.{of_some}
use Rattle.leaf_rows.specs.declared.marks.Marks.{Marks}
use Rattle.stored.specs.Stored.{Stored}
use Rattle.stored.specs.TableTree.{Entry, TableTree}
use Rattle.tree_dir.specs.declared.leaf.Framed.{Framed}
use Rattle.tree_dir.specs.declared.leaf.Leaf.{Leaf}
use Rattle.tree_dir.specs.Leaves.{Directory, IsDirectory, leaf_named, leaves_of}
use Rattle.tree_dir.proofs.Parting.{ids-name}
use Rattle.tree_open.specs.declared.place.TreePlace.{TreePlace}
use Rattle.tree_write.specs.Steps.{links_in}
use Rattle.engine_world.specs.Leaves.{LeavesOwned}
use Rattle.engine.specs.Waits.{in_none}
use Rattle.ckpt_step.specs.Floors.{IsAsItLies}
use Rattle.ckpt_step.specs.Grounds.{AreWritten, HasRoots}
use Rattle.ckpt_step.specs.Parts.{IsPart, IsParted, has_rows, own_part, part_in, part_leaves, part_of, parts_of}
use Rattle.ckpt_step.specs.Rooms.{Rooms, Written, known_in}
use Rattle.ckpt_step.proofs.Behind.{parted_whole}
use Rattle.ckpt_step.proofs.Members.{none_some}
use Rattle.ckpt_step.proofs.TableLeaves.{contains_of, in_table}
use Rattle.engine_store.specs.Marked.{IsUnmarked, KeepMarked, framed_part}
use Rattle.engine_store.proofs.KeptLeaves.{named_there}

-- ---- what is kept, one leaf after the other

-- with what is kept of one more
abbrev pub with_own : List Leaf → ℕ → Written → Written
with_own leaves leaf before id = if id == leaf then option_or (framed_part (leaf_named leaf leaves)) (before leaf) else before id

or_self : (o p : Option (List Entry)) → (p ≡ None) ⊎ (p ≡ o) → option_or o p ≡ o
or_self None p (inl none) = none
or_self None p (inr same) = same
or_self (Some es) p either = refl

pub own_more : (leaves : List Leaf) (leaf id : ℕ) (before after : Written) → ((k : ℕ) → after k ≡ with_own leaves leaf before k) → ((k : ℕ) → (before k ≡ None) ⊎ (before k ≡ framed_part (leaf_named k leaves))) → (after id ≡ None) ⊎ (after id ≡ framed_part (leaf_named id leaves))
own_more leaves leaf id before after is own = elim (cases_Bool (id == leaf)) [
  | inr other ↦ let same : after id ≡ before id = rw other at (is id) in elim (own id) [ inl none ↦ inl (same ∙ none) | inr kept ↦ inr (same ∙ kept) ]
  | inl here ↦
      let now : after id ≡ option_or (framed_part (leaf_named leaf leaves)) (before leaf) = rw here at (is id) in
      inr (now ∙ (or_self (framed_part (leaf_named leaf leaves)) (before leaf) (own leaf) ∙ ap (λ (k : ℕ). framed_part (leaf_named k leaves)) (sym (eqb-true id leaf here))))
]

-- what was kept of a leaf stays so, and it is kept of the next
pub all_more : (leaves : List Leaf) (leaf id : ℕ) (before after : Written) → ((k : ℕ) → after k ≡ with_own leaves leaf before k) → ((k : ℕ) → (before k ≡ None) ⊎ (before k ≡ framed_part (leaf_named k leaves))) → (before id ≡ framed_part (leaf_named id leaves)) ⊎ (id ≡ leaf) → after id ≡ framed_part (leaf_named id leaves)
all_more leaves leaf id before after is own either = elim (cases_Bool (id == leaf)) [
  | inr other ↦ elim either [
    | inl kept ↦ let same : after id ≡ before id = rw other at (is id) in same ∙ kept
    | inr same ↦ absurd (false≢true (sym other ∙ eq-eqb id leaf same))
  ]
  | inl here ↦
      let now : after id ≡ option_or (framed_part (leaf_named leaf leaves)) (before leaf) = rw here at (is id) in
      now ∙ (or_self (framed_part (leaf_named leaf leaves)) (before leaf) (own leaf) ∙ ap (λ (k : ℕ). framed_part (leaf_named k leaves)) (sym (eqb-true id leaf here)))
]

placed : (xs : List ℕ) (k id : ℕ) → k < length xs → get_or xs k id ≡ id → get_or xs k 0 ≡ id
placed [] k id lt at = absurd (omega (arith, lt))
placed (x ∷ xs) zero id lt at = at
placed (x ∷ xs) (suc k) id lt at = placed xs k id (omega (arith, lt)) at

pub keep_all : (known : List Table) (leaves : List Leaf) (marks : Marks) (ids : List ℕ) (written : Written)
    → ((i : ℕ) (t : Table) (l : Leaf) → slice_get known i ≡ Some t → Contains leaves l → l.table ≡ t.number → Contains ids l.id ⊎ IsUnmarked marks l) → ((id : ℕ) → (written id ≡ None) ⊎ (written id ≡ framed_part (leaf_named id leaves)))
    → ((k : ℕ) → k < length ids → written (get_or ids k 0) ≡ framed_part (leaf_named (get_or ids k 0) leaves)) → KeepMarked known leaves marks written
keep_all known leaves marks ids written marked own all = record {
  own = own;
  marked = λ i t l at there its. elim (marked i t l at there its) [
    | inr whole ↦ inr whole
    | inl among ↦ inl (subst (λ (id : ℕ). written id ≡ framed_part (leaf_named id leaves)) (placed ids among.0 l.id among.1 among.2) (all among.0 among.1))
  ];
}

pub kept_if : (known : List Table) (leaves : List Leaf) (marks : Marks) (ids : List ℕ) (result : Result Rooms NoMemory)
    → ((i : ℕ) (t : Table) (l : Leaf) → slice_get known i ≡ Some t → Contains leaves l → l.table ≡ t.number → Contains ids l.id ⊎ IsUnmarked marks l) → IfOk result (λ parts. (id : ℕ) → (known_in parts id ≡ None) ⊎ (known_in parts id ≡ framed_part (leaf_named id leaves)))
    → IfOk result (λ parts. (k : ℕ) → k < length ids → known_in parts (get_or ids k 0) ≡ framed_part (leaf_named (get_or ids k 0) leaves)) → IfOk result (λ parts. KeepMarked known leaves marks (known_in parts))
kept_if known leaves marks ids (Ok parts) marked own all = keep_all known leaves marks ids (known_in parts) marked own all
kept_if known leaves marks ids (Err none) marked own all = tt

-- ---- the parts

in_frames : (o : Option Framed) (part : Option (List Entry)) → option_or (if in_none o then None else part) part ≡ part
in_frames None part = refl
in_frames (Some f) None = refl
in_frames (Some f) (Some es) = refl

none_out : (o : Option Framed) (part : Option (List Entry)) → o ≡ None → (if in_none o then None else part) ≡ None
none_out None part none = refl
none_out (Some f) part none = absurd (none_some (sym none))

module _ (known : List Table) (d : Directory) (is : IsDirectory d) (marks : Marks) (written : Written) (keep : KeepMarked known d.leaves marks written) where
  pub part_own : (l : Leaf) → Contains d.leaves l → part_in written l ≡ own_part l.entry
  part_own l there = elim (keep.own l.id) [
    | inl none ↦ ap (λ (o : Option (List Entry)). option_or o (own_part l.entry)) none
    | inr kept ↦ ap (λ (o : Option (List Entry)). option_or o (own_part l.entry)) (kept ∙ ap framed_part (ids-name d is l there)) ∙ in_frames l.frame (own_part l.entry)
  ]

  pub part_same : (l : Leaf) → Contains d.leaves l → part_of written l ≡ part_of (known_in []) l
  part_same l there = ap (λ (o : Option (List Entry)). of_some [] (λ (es : List Entry). es) o) (part_own l there)

  parts_same : (leaves : List Leaf) → ((l : Leaf) → Member l leaves → Contains d.leaves l) → parts_of written leaves ≡ parts_of (known_in []) leaves
  parts_same [] there = refl
  parts_same (l ∷ leaves) there = ap₂ (λ (a b : List Entry). a ++ b) (part_same l (there l (inl refl))) (parts_same leaves (λ x at. there x (inr at)))

  parted : (n : ℕ) (place : TreePlace) (tree : TableTree) → IsParted [] d.leaves n (known_in []) place tree → IsParted [] d.leaves n written place tree
  parted n place tree p = parted_whole d.leaves n written place tree
      (p.joined (λ l there its. refl) ∙ ap links_in (sym (parts_same (leaves_of n d.leaves) (λ l at. contains_of d.leaves l (in_table n d.leaves l at).0))))
      (λ l there its. subst (λ (part : List Entry). IsPart d.leaves n l part (part_leaves place tree part)) (sym (part_same l there)) (p.parts l there its refl))

  pub roots_kept : (places : List TreePlace) (s : Stored) → HasRoots known [] d.leaves (known_in []) places s → HasRoots known [] d.leaves written places s
  roots_kept places s roots = record {
    few = roots.few;
    count = roots.count;
    trees = λ i t place at stands. let tree = roots.trees i t place at stands in (tree.0, tree.1, parted t.number place tree.0 tree.2);
  }

  none_named : (id : ℕ) → d.next ≤ id → leaf_named id d.leaves ≡ None
  none_named id late = by (leaf_named id d.leaves) refl where
    by : (o : Option Leaf) → leaf_named id d.leaves ≡ o → leaf_named id d.leaves ≡ None
    by None named = named
    by (Some l) named =
        let x = named_there id d.leaves l named in
        let below : l.id < d.next = All-contains (λ (y : Leaf). y.id < d.next) d.leaves l is.below x.0 in
        absurd (omega (arith, late, below, x.1))

  pub written_kept : (places : List TreePlace) → AreWritten known [] d (known_in []) places → AreWritten known [] d written places
  written_kept places are = record {
    later = λ id late. elim (keep.own id) [ inl none ↦ none | inr kept ↦ kept ∙ ap framed_part (none_named id late) ];
    made_since = λ i t l at none there its dead. let own = are.made_since i t l at none there its dead in (part_own l there ∙ own.0, own.1);
  }

  -- of a leaf in no frame nothing is kept
  pub away_kept : (l : Leaf) → Contains d.leaves l → l.frame ≡ None → written l.id ≡ None
  away_kept l there none = elim (keep.own l.id) [
    | inl kept ↦ kept
    | inr kept ↦ kept ∙ (ap framed_part (ids-name d is l there) ∙ none_out l.frame (own_part l.entry) none)
  ]

  -- a leaf of which nothing is kept is kept whole by the opening, or has no rows
  pub whole_or_bare : LeavesOwned known d.leaves → ((l : Leaf) → Contains d.leaves l → l.frame ≡ None → IsUnmarked marks l) → (l : Leaf) → Contains d.leaves l → IsAsItLies written l → IsUnmarked marks l ⊎ (has_rows l.entry.link ≡ false)
  whole_or_bare owned unmarked l there (inl none) = inl (unmarked l there none)
  whole_or_bare owned unmarked l there (inr nothing) =
      let its = owned l there in
      elim (keep.marked its.0 its.1 l its.2 there its.3) [
        | inr whole ↦ inl whole
        | inl kept ↦ by l.frame refl (sym (ap framed_part (ids-name d is l there)) ∙ (sym kept ∙ nothing))
      ]
    where
      bare : (own_part l.entry ≡ None) → has_rows l.entry.link ≡ false
      bare none = elim (cases_Bool (l.entry.link.greatest.id == 0)) [
        | inl is_none ↦ rw is_none refl
        | inr some ↦ absurd (let clash : Some (l.entry ∷ []) ≡ None = rw some at none in cc)
      ]

      by : (o : Option Framed) → l.frame ≡ o → (if in_none l.frame then None else own_part l.entry) ≡ None → IsUnmarked marks l ⊎ (has_rows l.entry.link ≡ false)
      by None is_none part = inl (unmarked l there is_none)
      by (Some f) framed part = inr (bare (sym (ap (λ (o : Option Framed). if in_none o then None else own_part l.entry) framed) ∙ part))
