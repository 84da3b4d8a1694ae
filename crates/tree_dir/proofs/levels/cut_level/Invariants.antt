use Rattle.std.proofs.Common.{◌++◌, List, length}
use Rattle.std.specs.List.{AllByRecursion}
use Rattle.stored.specs.TableTree.{Climbs, EntryFits}
use Rattle.tree_dir.specs.declared.draft.PageDraft.{PageDraft}
use Rattle.tree_dir.specs.Levels.{AreCut}
use Rattle.tree_dir.proofs.levels.cut_level.Given as goal

abbrev pub invariant-loop-rest : goal.invariant-loop-rest
invariant-loop-rest l = record {
  fit : AllByRecursion EntryFits l.rest;
  climbs : Climbs l.rest;
  cut : (later : List PageDraft) → AreCut l.level later l.rest → AreCut l.level (l.pages.items ++ later) l.fn.entries;
}

abbrev pub decreases-loop-rest : goal.decreases-loop-rest
decreases-loop-rest l = length l.rest
