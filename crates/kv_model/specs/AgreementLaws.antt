-- What agreement from oldest on is good for.
use Rattle.std.specs.Prelude.{Bool, true, ◌≡◌, ◌⊎◌, ℕ, ◌≤◌, List, [], ◌∷◌, length, Option, Some, None}
use Rattle.item.specs.declared.Change.{Change}
use Rattle.stamp.specs.declared.Version.{Version}
use Rattle.kv_model.specs.History.{Entry, Rts, Agree, admits, line, value}
use Rattle.kv_model.specs.Ordered.{IsOrderly}
use Rattle.kv_model.specs.Refusals.{newest_durable}

-- at no stamp, or at one that is not before oldest
abbrev pub IsReadable : ℕ → ℕ → Type 0
IsReadable oldest read = (read ≡ 0) ⊎ (oldest ≤ read)

-- a rollback to a stable stamp that is not before oldest keeps agreement
abbrev pub RollbackKeepsAgreement : Type 0
RollbackKeepsAgreement = (history other : List Entry) (oldest stable : ℕ) → oldest ≤ stable → Agree history other oldest → Agree (Rts stable ∷ history) (Rts stable ∷ other) oldest

-- a transaction that begins now reads alike
abbrev pub AgreementReads : Type 0
AgreementReads = (history other : List Entry) (oldest read : ℕ) → IsOrderly history → IsOrderly other → IsReadable oldest read → Agree history other oldest → (table : ℕ) (key : List ℕ)
    → value history (length history) read table key ≡ value other (length other) read table key

-- the newest of a line
abbrev pub head_of : List (Version Change) → Option (Version Change)
head_of [] = None
head_of (v ∷ older) = Some v

-- the newest version of each key is the same
abbrev pub AgreementHeads : Type 0
AgreementHeads = (history other : List Entry) (oldest : ℕ) → Agree history other oldest → (table : ℕ) (key : List ℕ)
    → head_of (line history table key) ≡ head_of (line other table key)

-- whether who begins now at this read stamp may write over the line
abbrev pub may_now : List Entry → ℕ → List (Version Change) → Bool
may_now history read [] = true
may_now history read (v ∷ older) = admits history (length history) read v

-- so a write of a transaction that begins now is refused alike
abbrev pub AgreementRefuses : Type 0
AgreementRefuses = (history other : List Entry) (oldest read : ℕ) → IsOrderly history → IsOrderly other → Agree history other oldest → (table : ℕ) (key : List ℕ)
    → may_now history read (line history table key) ≡ may_now other read (line other table key)

-- and the order rule looks at the same durable stamp
abbrev pub AgreementOrders : Type 0
AgreementOrders = (history other : List Entry) (oldest : ℕ) → Agree history other oldest → (table : ℕ) (key : List ℕ)
    → newest_durable (line history table key) ≡ newest_durable (line other table key)
