-- Parts of what events leave.
use Rattle.std.specs.Prelude.{ℕ, ◌==◌, List, ◌∷◌, Some, if◌then◌else◌}
use Rattle.kv_model.specs.History.{Entry, Rts}
use Rattle.kv_model.specs.Machine.{Machine, Transaction, Phase, Resolving, with_transaction, left}

-- what the first event of a rollback leaves, put into the session's place
abbrev pub left_taken : Phase → Machine → ℕ → Transaction → Machine
left_taken Resolving m session t = with_transaction m session (Some t)
left_taken phase m session t = left phase m session t

-- a history after a rollback to this stable stamp, 0 for none
abbrev pub rolled_back : ℕ → List Entry → List Entry
rolled_back stable history = if stable == 0 then history else Rts stable ∷ history
