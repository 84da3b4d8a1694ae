use Rattle.std.proofs.Common.{◌≡◌, length, take}
use Rattle.std.specs.Prelude.{option_map}
use Rattle.row_page.proofs.Founds.{Passed}
use Rattle.row_page.proofs.leaf.cells_in.Given as goal

abbrev pub invariant-loop-i : goal.invariant-loop-i
invariant-loop-i l = record {
  room : length l.places.items ≡ l.count;
  passed : Passed l.text l.count l.i (option_map (λ v. v.now) l.before) l.reader (take l.i l.places.items) l.greatest.name l.greatest.durable;
}
