-- Entries that may stand where a leaf of the directory stands may take its place.
use Rattle.std.proofs.Common.{◌≡◌, ◌∙◌, ◌++◌, ℕ, List, Option, Some, sym, ap, subst}
use Rattle.std.specs.Prelude.{option_map}
use Rattle.std.specs.Option.{option_to_list}
use Rattle.stored.specs.TableTree.{Climbs, Entry}
use Rattle.tree_dir.specs.declared.leaf.Leaf.{Leaf}
use Rattle.tree_dir.specs.Leaves.{Directory, leaf_behind, leaf_named}
use Rattle.ckpt_step.specs.Giving.{MayStand, MayTakeOver}
use Rattle.ckpt_step.specs.Parts.{part_in}
use Rattle.ckpt_step.specs.Rooms.{Written}

module _ (d : Directory) (written : Written) (id oldest : ℕ) where
  -- next: the entry of the leaf behind it
  module _ (l : Leaf) (there : leaf_named id d.leaves ≡ Some l) where
    pub may_take_over : (part es : List Entry) (low : List ℕ) (next : Option Entry) → es ≡ part → part_in written l ≡ Some part → low ≡ l.entry.key → next ≡ option_map (λ (x : Leaf). x.entry) (leaf_behind id d.leaves) → MayStand part low next oldest → MayTakeOver d written id oldest es
    may_take_over part es low next same own is behind stand = subst (λ (es : List Entry). MayTakeOver d written id oldest es) (sym same) (record {
      place = record {
        leaf = l;
        there = there;
        begins = stand.begins ∙ ap (λ (k : List ℕ). Some k) is;
        climbs = subst (λ (o : Option Entry). Climbs (part ++ option_to_list o)) behind stand.climbs;
      };
      part = own;
      durable = stand.durable;
    })
