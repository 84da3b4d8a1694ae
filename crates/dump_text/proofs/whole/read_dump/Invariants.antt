use Rattle.std.proofs.Common.{◌≡◌, ◌≤◌, ◌+◌, ◌++◌, ℕ, List, length}
use Rattle.dump_text.specs.Cuts.{lines_in}
use Rattle.dump_text.specs.Wholes.{HasTaken}
use Rattle.dump_text.proofs.whole.read_dump.Given as goal

abbrev pub invariant-lines : goal.invariant-lines
invariant-lines l = record {
  front : List (List ℕ);
  taken : HasTaken front (lines_in l.rest) l.reading;
  lines : lines_in l.fn.text ≡ front ++ lines_in l.rest;
  count : l.count ≡ length front;
  fits : l.count + length l.rest ≤ length l.fn.text;
}

abbrev pub decreases-lines : goal.decreases-lines
decreases-lines l = length l.rest
