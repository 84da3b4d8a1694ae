-- A record whose key and version are lent.
use Rattle.stored.specs.HistoryTree.{HistoryRecord}
use Rattle.hist_pages.specs.declared.lent_record.LentRecord.{LentRecord}
use Rattle.hist_pages.specs.Records.{record_of}

abbrev pub record_seen : LentRecord → HistoryRecord
record_seen r = record_of r.table r.key.now r.version.now
