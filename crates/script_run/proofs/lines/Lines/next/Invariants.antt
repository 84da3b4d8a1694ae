use Rattle.std.proofs.Common.{◌≡◌, ◌≤◌, ◌+◌, ◌-◌, ◌++◌, ℕ, List, [], true, length}
use Rattle.std.specs.Prelude.{IsTrue, if◌then◌else◌}
use Rattle.wt_io.specs.Streams.{AtEnd, Gave}
use Rattle.script_run.specs.Lines.{is_unbroken}
use Rattle.script_text.specs.declared.parse.TheConstants.{LINE_MAX}
use Rattle.script_run.proofs.lines.Lines.next.Given as goal

abbrev pub invariant-loop-self : goal.invariant-loop-self
invariant-loop-self g l = record {
  given : List ℕ;
  gave : Gave (g.S.Source.left l.fn.input) (g.S.Source.left l.input) given;
  none : IsTrue l.fn.self.ended → given ≡ [];
  unbroken : is_unbroken l.self.line ≡ true;
  short : length l.self.line ≤ LINE_MAX;
  empty : l.self.behind ≡ [];
  read : l.fn.self.behind ++ given ≡ l.self.line;
  ended : IsTrue l.self.ended → AtEnd (g.S.Source.left l.input);
  stays : IsTrue l.fn.self.ended → IsTrue l.self.ended;
  later : g.S.Source.fault_count l.fn.input ≤ g.S.Source.fault_count l.input;
}

abbrev pub decreases-loop-self : goal.decreases-loop-self
decreases-loop-self g l = (LINE_MAX - length l.self.line) + (if l.self.ended then 0 else 1)
