use Rattle.std.proofs.Common.{◌≡◌, ◌++◌, map, take}
use Rattle.recover_open.specs.Damage.{found_there}
use Rattle.recover_open.proofs.books.put_pages.Given as goal

abbrev pub invariant-loop-addr : goal.invariant-loop-addr
invariant-loop-addr l = l.found.items ≡ l.fn.found.items ++ map found_there (take l.addr-index l.addrs)
