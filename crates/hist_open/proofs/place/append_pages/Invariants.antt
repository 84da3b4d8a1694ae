use Rattle.std.proofs.Common.{◌≡◌, ◌++◌, take}
use Rattle.hist_open.proofs.Descent.{page_addrs}
use Rattle.hist_open.proofs.place.append_pages.Given as goal

abbrev pub invariant-loop-entry : goal.invariant-loop-entry
invariant-loop-entry l = l.addrs.items ≡ l.fn.addrs.items ++ page_addrs (take l.entry-index l.entries)
