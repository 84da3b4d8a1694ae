-- A tree of a checkpoint that a device has.
use Rattle.std.specs.Prelude.{ℕ, List, Option, Some, None}
use Rattle.std.proofs.Common.{inr}
use Rattle.kv_model.specs.Holds.{Member}
use Rattle.kv_model.specs.History.{Table}
use Rattle.stored.specs.Blocks.{Apart, Block, IsAddressed, IsAt}
use Rattle.stored.specs.Stored.{Stored, history_blocks, stored_blocks, tables_blocks}
use Rattle.stored.specs.TableTree.{TableTree, root_entry, table_kind}
use Rattle.stored.specs.Tree.{tree_blocks}
use Rattle.checkpoint_core.specs.Stands.{HasStill}
use Rattle.tree_open.specs.declared.place.TreePlace.{TreePlace}
use Rattle.tree_open.specs.Trees.{HasTree, IsPlaceOf}
use Rattle.ckpt_step.specs.Trees.{HasTreeAt, table_root}
use Rattle.ckpt_step.proofs.Members.{all_of, in_front}
use Rattle.ckpt_step.proofs.Pairs.{apart_front, pair_apart, pair_on}

pub on_still : (old : Option Stored) (seen : List ℕ) (t : Table) (p : TreePlace) (tree : TableTree) → HasStill old seen → HasTreeAt old t p tree → HasTree seen p.root tree
on_still None seen t p tree still at = absurd at
on_still (Some s) seen t p tree on at = pair_on seen (table_root t p.root) tree s.kept.tables s.trees at.0 on.whole.trees (λ b there. all_of (λ (x : Block). IsAddressed x) (stored_blocks s) b on.whole.addressed (all b there)) (λ b there. all_of (λ (x : Block). IsAt seen x) (stored_blocks s) b on.holds (all b there))
  where
    all : (b : Block) → Member b (tables_blocks s.kept.tables s.trees) → Member b (stored_blocks s)
    all b there = inr (in_front (tables_blocks s.kept.tables s.trees) (history_blocks s.kept s.history) b there)

pub apart_still : (old : Option Stored) (seen : List ℕ) (t : Table) (p : TreePlace) (tree : TableTree) → HasStill old seen → HasTreeAt old t p tree → Apart (tree_blocks table_kind (root_entry p.root.link) tree)
apart_still None seen t p tree still at = absurd at
apart_still (Some s) seen t p tree on at = pair_apart (table_root t p.root) tree s.kept.tables s.trees at.0 (apart_front (tables_blocks s.kept.tables s.trees) (history_blocks s.kept s.history) on.whole.apart.1)

pub is_place : (old : Option Stored) (t : Table) (p : TreePlace) (tree : TableTree) → HasTreeAt old t p tree → IsPlaceOf p tree
is_place None t p tree at = absurd at
is_place (Some s) t p tree at = at.1
