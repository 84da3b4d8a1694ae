-- Calls of the system, as an engine makes them.
use Rattle.std.specs.Prelude.{ℕ, List}
use Rattle.wt_code.specs.declared.answers.Answer.{Answer}
use Rattle.kv_model.specs.Calls.{Call, SystemAnswers}
use Rattle.kv_model.specs.Machine.{Machine}
use Rattle.engine_world.specs.Stands.{Engine, Stands}
use Rattle.engine_world.specs.Whole.{nothing_around}
use Rattle.engine_world.specs.Worlds.{World}

-- the machine answers the call so, and the engine stands for the machine that it leaves
abbrev pub Makes : Engine → World → Call → Answer (List ℕ) → Type 0
Makes new w asked answer = (next : Machine) × SystemAnswers nothing_around w.machine asked answer next × Stands new (record w { machine = next })
