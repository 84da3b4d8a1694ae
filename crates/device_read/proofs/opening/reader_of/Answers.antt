use Rattle.std.proofs.Common.{◌≡◌, ◌∙◌, List, ap, length, subst, sym}
use Rattle.std.specs.Prelude.{filter}
use Rattle.stored.specs.HistoryTree.{HistoryRecord}
use Rattle.stored.specs.Records.{Record, TableRoot, TablesClimb}
use Rattle.device_read.specs.Newest.{KeysClimb, is_kept_record}
use Rattle.device_read.proofs.NewestRecords.{newest_climb}
use Rattle.device_read.proofs.opening.reader_of.Goals as goal

pub invariant_of-result : goal.invariant_of-result
invariant_of-result c =
    let tables : c.found.inside.tables.items ≡ c.args.whole.record.tables = ap (λ (r : Record). r.tables) c.found.view_is in
    record {
      ascend = subst (λ (l : List TableRoot). TablesClimb l) (sym tables) c.requires.is_record.climb;
      climb = c.requires.climb;
      count = c.requires.count ∙ ap length (sym tables);
      keys = subst (λ (l : List HistoryRecord). KeysClimb l) (sym c.in_ok-newest.ensures) (newest_climb (filter (is_kept_record c.marks_of-marks.result c.deref.result.now) c.args.whole.history.records.items));
    }
