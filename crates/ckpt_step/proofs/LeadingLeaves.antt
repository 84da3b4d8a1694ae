-- What leads to the leaves of trees that were captured leads apart.
use Rattle.std.specs.Prelude.{◌≡◌, ℕ, zero, suc, ◌≤◌, List, [], ◌∷◌, ◌++◌, Some, slice_get}
use Rattle.std.proofs.Common.{sym, subst, arith}
use Rattle.block_mgr.specs.Blocks.{Books, Has}
use Rattle.block_mgr.specs.Cells.{AreUnits}
use Rattle.block_mgr.proofs.HasLemmas.{used_some}
use Rattle.checkpoint_core.specs.Stands.{AreInUse}
use Rattle.kv_model.specs.Holds.{Member}
use Rattle.stored.specs.Blocks.{Apart, Block}
use Rattle.stored.specs.TableTree.{TableTree, root_entry, table_kind}
use Rattle.stored.specs.Tree.{bottom, inner_blocks, leaf_blocks, tree_blocks}
use Rattle.tree_open.specs.Trees.{root_own}
use Rattle.tree_open.specs.declared.place.TreePlace.{TreePlace}
use Rattle.tree_write.specs.Writes.{LeadApart}
use Rattle.ckpt_step.specs.Trees.{AreTreesAt, trees_blocks}
use Rattle.ckpt_step.proofs.Members.{all_of, in_back, in_front, none_some, some_same}
use Rattle.ckpt_step.proofs.OrderedByName.{all_back}
use Rattle.ckpt_step.proofs.Pairs.{apart_back, apart_front, lead_apart}

module _ (bytes : List ℕ) (books : Books) (units : AreUnits books.cells books.space) where
  abbrev IsUsed : Block → Type 0
  IsUsed b = Has books.cells b.place.offset b.place.size

  some_size : (blocks : List Block) (b : Block) → AreInUse books.cells blocks → Member b blocks → 1 ≤ b.place.size
  some_size blocks b used there = let has = all_of (λ (x : Block). IsUsed x) blocks b used there in omega (arith, has.2, used_some books.cells books.space has.0 units has.3)

  pub leaves_lead : (places : List TreePlace) (trees : List TableTree) → AreTreesAt bytes places trees → Apart (trees_blocks places trees) → AreInUse books.cells (trees_blocks places trees) → (i : ℕ) (p : TreePlace) → slice_get places i ≡ Some p → LeadApart p.leaves.items
  leaves_lead [] trees are apart used i p at = absurd (none_some at)
  leaves_lead (q ∷ places) [] are apart used i p at = absurd are
  leaves_lead (q ∷ places) (tree ∷ trees) are apart used zero p at =
      let own = bottom (root_own q.root) tree.layers in
      let inner = inner_blocks table_kind (root_own q.root) tree.layers in
      let leafs = leaf_blocks table_kind own tree.leaves in
      let all = tree_blocks table_kind (root_entry q.root.link) tree in
      let rest = trees_blocks places trees in
      subst (λ (x : TreePlace). LeadApart x.leaves.items) (some_same at)
      (subst LeadApart (sym are.1.leaves) (lead_apart own tree.leaves are.0.is.bear (apart_back inner leafs (apart_front all rest apart)) (λ b there. some_size (all ++ rest) b used (in_front all rest b (in_back inner leafs b there)))))
  leaves_lead (q ∷ places) (tree ∷ trees) are apart used (suc i) p at =
      let all = tree_blocks table_kind (root_entry q.root.link) tree in
      leaves_lead places trees are.2 (apart_back all (trees_blocks places trees) apart) (all_back (λ (b : Block). IsUsed b) all (trees_blocks places trees) used) i p at
