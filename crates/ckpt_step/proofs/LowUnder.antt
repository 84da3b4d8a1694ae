-- The low key of a leaf of the directory lies in it.
use Rattle.std.specs.Prelude.{◌≡◌, ℕ, ◌<◌, true, false, List, ◌∷◌, Some, refl}
use Rattle.std.specs.List.{Contains}
use Rattle.std.specs.Ordering.{is_lt}
use Rattle.std.proofs.Common.{inl, inr, sym, ◌∙◌, ap, subst, arith, get_or}
use Rattle.std.proofs.lemmas.Bool.{both_ways, cases_Bool, cases_lt}
use Rattle.std.proofs.lemmas.List.{get_or_default}
use Rattle.row_page.specs.Rows.{is_below}
use Rattle.row_page.proofs.Ascending.{below_self}
use Rattle.tree_dir.specs.declared.leaf.Leaf.{Leaf}
use Rattle.tree_dir.specs.Leaves.{Directory, IsDirectory, begins_by, leaf_under}
use Rattle.tree_dir.specs.Slots.{no_leaf}
use Rattle.tree_dir.proofs.KeyOrder.{place-same}
use Rattle.tree_dir.proofs.Parting.{IsLast, begins-here, begins-low, last-is}
use Rattle.ckpt_step.proofs.TableLeaves.{begins_parts, member_of, under_some}

module _ (d : Directory) (is : IsDirectory d) (n : Leaf) (there : Contains d.leaves n) where
  abbrev pub low : List ℕ
  low = n.entry.key

  not_self : is_below low low ≡ false
  not_self = elim (cases_Bool (is_below low low)) [ inl below ↦ absurd (below_self low below) | inr isnt ↦ isnt ]

  begins : begins_by n.table low n ≡ true
  begins = begins-here n.table low n refl not_self

  abbrev at : ℕ
  at = there.0

  n_is : get_or d.leaves at no_leaf ≡ n
  n_is = get_or_default d.leaves at no_leaf n there.1 ∙ there.2

  module _ (x : Leaf) (found : leaf_under n.table low d.leaves ≡ Some x) (last : IsLast n.table low d.leaves x) where
    -- a leaf behind it begins above its low key
    not_behind : at < last.r → x ≡ n
    not_behind lt =
        let up = is.ascends at last.r no_leaf lt last.within in
        let table : x.table ≡ n.table = (begins_parts n.table low x last.begins).0 in
        let rises : is_below n.entry.key x.entry.key ≡ true =
        sym (ap is_lt (place-same n.table x.table n.entry.key x.entry.key (sym table)))
        ∙ subst (λ (y : Leaf). is_below (n.table ∷ n.entry.key) (y.table ∷ y.entry.key) ≡ true) last.is (subst (λ (y : Leaf). is_below (y.table ∷ y.entry.key) ((get_or d.leaves last.r no_leaf).table ∷ (get_or d.leaves last.r no_leaf).entry.key) ≡ true) n_is up) in
        absurd (both_ways (is_below low x.entry.key) (begins-low n.table low x last.begins) rises)

    found_is : x ≡ n
    found_is = elim (cases_lt at last.r) [
      | inl lt ↦ not_behind lt
      | inr most ↦ elim (cases_lt last.r at) [
        | inl more ↦ absurd (both_ways (begins_by n.table low n) (subst (λ (y : Leaf). begins_by n.table low y ≡ false) n_is (last.later at more there.1)) begins)
        | inr less ↦ sym last.is ∙ (ap (λ (k : ℕ). get_or d.leaves k no_leaf) (let same : last.r ≡ at = omega (arith, most, less) in same) ∙ n_is)
      ]
    ]

  pub low_under : leaf_under n.table low d.leaves ≡ Some n
  low_under =
      let one = under_some n.table low d.leaves n is.begins (member_of d.leaves n there) refl in
      one.1 ∙ ap (λ (y : Leaf). Some y) (found_is one.0 one.1 (last-is n.table low d.leaves one.0 one.1))
