use Rattle.std.specs.Prelude.{List}
use Rattle.kv_model.specs.History.{Table}
use Rattle.hist_pages.specs.Records.{Fits}
use Rattle.hist_gather.specs.Added.{AreAmong, AreKnown, HasMore}
use Rattle.hist_gather.specs.Sources.{OfPlaces}
use Rattle.hist_gather.proofs.gathering.add_tables.Given as goal

abbrev pub invariant-loop-place : goal.invariant-loop-place
invariant-loop-place l = record {
  more : HasMore (OfPlaces l.from l.place) l.fn.history l.history;
  known : (known : List Table) → AreAmong l.from.engine.now.hub.tables.tables l.place known → AreKnown known l.fn.history → AreKnown known l.history;
  fit : Fits l.fn.history → Fits l.history;
}
