use Rattle.std.proofs.Common.{◌≡◌, ◌≤◌, length, take}
use Rattle.std.specs.Prelude.{map, vec_capacity}
use Rattle.stored.specs.HistoryTree.{HistoryEntry}
use Rattle.hist_write.proofs.entries.put_addrs.Given as goal

abbrev pub invariant-loop-entry : goal.invariant-loop-entry
invariant-loop-entry l = record {
  addrs : l.all.items ≡ map {A = HistoryEntry} (λ e. e.link.addr) (take l.entry-index l.entries);
  count : length l.all.items ≡ l.entry-index;
  room : length l.entries ≤ vec_capacity l.all;
}
