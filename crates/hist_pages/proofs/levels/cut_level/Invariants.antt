use Rattle.std.proofs.Common.{◌++◌, List, length}
use Rattle.std.specs.List.{AllByRecursion}
use Rattle.stored.specs.HistoryTree.{HistoryClimbs, HistoryEntryFits}
use Rattle.hist_pages.specs.declared.page.HistoryPage.{HistoryPage}
use Rattle.hist_pages.specs.Levels.{AreCut}
use Rattle.hist_pages.proofs.levels.cut_level.Given as goal

abbrev pub invariant-loop-rest : goal.invariant-loop-rest
invariant-loop-rest l = record {
  fit : AllByRecursion HistoryEntryFits l.rest;
  climbs : HistoryClimbs l.rest;
  cut : (later : List HistoryPage) → AreCut l.level later l.rest → AreCut l.level (l.pages.items ++ later) l.fn.entries;
}

abbrev pub decreases-loop-rest : goal.decreases-loop-rest
decreases-loop-rest l = length l.rest
