-- An input that is taken in pieces.
use Rattle.std.specs.Prelude.{◌≤◌, ℕ}
use Rattle.std.proofs.Common.{inl, inr}
use Rattle.failure.specs.Counts.{Rose}
use Rattle.script_run.specs.declared.script.End.{End}
use Rattle.wt_tool.specs.Inputs.{IsUntaken}
use Rattle.wt_tool.proofs.Gets.{rose_before}

-- a read that failed behind others
pub untaken_further : (first second third : ℕ) (end : End) → first ≤ second → IsUntaken (Rose second third) end → IsUntaken (Rose first third) end
untaken_further first second third end low (inl (is, rose)) = inl (is, rose_before first second third low rose)
untaken_further first second third end low (inr short) = inr short
