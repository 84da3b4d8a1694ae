-- The data with which an engine begins.
use Rattle.std.specs.Prelude.{◌≡◌, ℕ, List, [], ◌∷◌, Option, None}
use Rattle.tree_dir.specs.Leaves.{Directory}
use Rattle.txn_table.specs.Tabled.{fresh}
use Rattle.catalog.specs.Known.{Known}
use Rattle.wt_calls.specs.declared.system_call.SystemCall.{SystemCall}
use Rattle.call_steps.specs.declared.hub.Hub.{Hub}
use Rattle.engine_world.specs.Stands.{Engine}

-- four actors without a call
abbrev pub no_calls : List (Option SystemCall)
no_calls = None ∷ (None ∷ (None ∷ (None ∷ [])))

-- what the sessions share at first
abbrev pub first_hub : ℕ → ℕ → ℕ → Known → Directory → Hub
first_hub run oldest stable known dir = record { txns = fresh run 0; stamps = record { oldest = oldest; stable = stable }; tables = known; dir = dir; fault = None }

-- no frame, no session, and no call
pub record IsOpened (run oldest stable : ℕ) (known : Known) (dir : Directory) (e : Engine) : Type 0 where
  pub hub : e.hub ≡ first_hub run oldest stable known dir
  pub pieces : e.pieces ≡ []
  pub states : e.states ≡ []
  pub sessions : e.sessions ≡ []
  pub systems : e.systems ≡ no_calls
