-- What orders the records of the history, where its key is lent.
use Rattle.std.specs.Prelude.{Bool, ◌&&◌}
use Rattle.stamp.specs.declared.name.Name.{Name}
use Rattle.row_page.specs.Reading.{is_number}
use Rattle.stored.specs.HistoryTree.{Mark}
use Rattle.inner_page.specs.declared.mark.LentMark.{LentMark}

abbrev pub mark_seen : LentMark → Mark
mark_seen m = record { table = m.table; key = m.key.now; commit = m.commit; name = m.name }

-- a version may bear the name
abbrev pub name_fits : Name → Bool
name_fits n = is_number n.run && is_number n.id
