use Rattle.std.proofs.Common.{◌≤◌, ◌+◌, ◌-◌, length}
use Rattle.wt_io.specs.Streams.{Gave}
use Rattle.script_run.specs.declared.script.TheConstants.{INPUT_MAX}
use Rattle.wt_tool.proofs.input.take_pieces.Given as goal

abbrev pub invariant-pieces : goal.invariant-pieces
invariant-pieces g l = record {
  gave : Gave (g.S.Source.left l.fn.input) (g.S.Source.left l.input) l.text.items;
  within : length l.text.items ≤ INPUT_MAX + 1;
  later : g.S.Source.fault_count l.fn.input ≤ g.S.Source.fault_count l.input;
}

abbrev pub decreases-pieces : goal.decreases-pieces
decreases-pieces g l = INPUT_MAX + 1 - length l.text.items
