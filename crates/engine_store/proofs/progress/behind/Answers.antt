use Rattle.std.proofs.Common.{◌∙◌, ap}
use Rattle.std.specs.Prelude.{option_map}
use Rattle.tree_dir.specs.declared.leaf.Leaf.{Leaf}
use Rattle.ckpt_step.proofs.NextLeaf.{found_behind}
use Rattle.engine_store.proofs.progress.behind.Goals as goal

pub returns-in-Some : goal.returns-in-Some
returns-in-Some c = c.entry.ensures ∙ ap (option_map (λ (l : Leaf). l.entry)) (found_behind c.args.leaves.now c.stands.ensures c.args.leaf c.in-Some.next c.in-Some.ensures)
