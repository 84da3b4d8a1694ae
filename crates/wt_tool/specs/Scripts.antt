-- The run of `script`: the lines of the input, each a call or a step of one, or one that reaches the device.
use Rattle.std.specs.Prelude.{◌≡◌, ℕ, Bool, List, [], ◌∷◌, IsTrue, None}
use Rattle.wt_code.specs.declared.refusals.Refusal.{Refusal}
use Rattle.row_page.specs.Rows.{Row}
use Rattle.engine_store.specs.declared.eviction.TheConstants.{FRAMES}
use Rattle.script_run.specs.declared.script.End.{End}
use Rattle.script_run.specs.declared.script.End.TheVariants.{Through, Stopped}
use Rattle.script_run.specs.Lines.{AreLines}
use Rattle.script_run.specs.Scripts.{Outside, RunsLines, fresh, opened_world}
use Rattle.script_run.specs.Scripts as script
use Rattle.wt_tool.specs.Points.{Point, Ran}

-- the refusal that an end tells, if it does
abbrev pub told_at : End → List Refusal
told_at (Stopped r) = r ∷ []
told_at _ = []

-- what a run of lines gave and printed, and what it installed
abbrev pub ran_by : List ℕ → script.Ran → Ran
ran_by given s = record {
  input = given;
  text = s.text;
  refusals = told_at s.end;
  replies = s.replies;
  made = s.last.made;
  next = record { machine = s.last.world.machine; device = s.last.device };
  end = s.end;
}

-- what the input gave is cut into lines, and they are run in order; where all was run, nothing stands behind them
pub record RunsScript (o : Outside) (p : Point) (ran : Ran) : Type 0 where
  pub given : List ℕ
  pub texts : List (List ℕ)
  -- what was read behind the last line that was taken
  pub behind : List ℕ
  pub ended : Bool
  pub at_end : IsTrue ended → o.input_ended
  pub lines : AreLines ended given texts behind
  -- the rows of the leaves that are in no frame
  pub shelf : ℕ → List Row
  pub made : script.Ran
  pub runs : RunsLines o 1 0 texts (fresh (opened_world p.machine shelf) p.device FRAMES None) made
  pub whole : made.end ≡ Through → behind ≡ []
  pub is : ran ≡ ran_by given made
