use Rattle.std.proofs.Common.{◌≡◌, ◌-◌, ◌≤◌, length, map, take}
use Rattle.std.specs.Prelude.{filter}
use Rattle.std.specs.List.{AllByRecursion}
use Rattle.catalog.specs.Known.{by_name}
use Rattle.ckpt_step.specs.Records.{IsTyped}
use Rattle.ckpt_step.specs.Trees.{placed_by, roots_of}
use Rattle.ckpt_step.proofs.FirstTables.{in_first, rooted_in}
use Rattle.ckpt_step.proofs.roots.roots_of.Given as goal

abbrev pub invariant-loop-place : goal.invariant-loop-place
invariant-loop-place l = record {
  is : l.roots.items ≡ map (rooted_in (take l.first l.tables.tables) (roots_of (placed_by l.was l.told))) (filter (in_first l.first l.tables.tables) (take l.i (by_name l.tables.tables)));
  within : l.i ≤ length l.tables.tables;
  typed : AllByRecursion IsTyped l.roots.items;
}

abbrev pub decreases-loop-place : goal.decreases-loop-place
decreases-loop-place l = length l.tables.tables - l.i
