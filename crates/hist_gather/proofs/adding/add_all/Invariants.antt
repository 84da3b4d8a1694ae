use Rattle.std.proofs.Common.{◌≡◌, List, true}
use Rattle.kv_model.specs.History.{Table, has_table}
use Rattle.hist_pages.specs.Records.{Fits}
use Rattle.hist_gather.specs.Added.{AreKnown, HasMore, OfMoved}
use Rattle.hist_gather.proofs.adding.add_all.Given as goal

abbrev pub invariant-loop-one : goal.invariant-loop-one
invariant-loop-one l = record {
  more : HasMore (OfMoved l.table l.yielded) l.fn.history l.history;
  known : (tables : List Table) → has_table tables l.table ≡ true → AreKnown tables l.fn.history → AreKnown tables l.history;
  fit : Fits l.fn.history → Fits l.history;
}
