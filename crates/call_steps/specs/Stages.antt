-- What the stages of a call say, and which follows which.
use Rattle.std.specs.Prelude.{ℕ, zero, suc, Bool, true, false, Option, Some, None}
use Rattle.txn_table.specs.declared.phase.Phase.{Phase}
use Rattle.txn_table.specs.declared.phase.Phase.TheVariants as phase
use Rattle.call_steps.specs.declared.stage.KeyCall.{KeyCall}
use Rattle.call_steps.specs.declared.stage.KeyCall.TheVariants.{Put, Remove, Seek, Step}
use Rattle.call_steps.specs.declared.stage.CommitStamps.{CommitStamps}
use Rattle.call_steps.specs.declared.stage.Stage.{Stage}
use Rattle.call_steps.specs.declared.stage.Stage.TheVariants as stage

abbrev pub is_write : KeyCall → Bool
is_write (Put demand) = true
is_write Remove = true
is_write _ = false

-- the cursor that the call moves
abbrev pub cursor_in : KeyCall → Option ℕ
cursor_in (Seek cursor) = Some cursor
cursor_in (Step cursor way) = Some cursor
cursor_in _ = None

-- ---- the leaves that were written, where so many keys are left, and what follows them

abbrev pub marks : ℕ → ℕ → Stage
marks stamp zero = stage.Release stamp
marks stamp (suc n) = stage.Mark stamp (suc n)

abbrev pub orders : CommitStamps → ℕ → Stage → Stage
orders stamps zero after = after
orders stamps (suc n) after = stage.Order stamps (suc n)

abbrev pub stamps_then : CommitStamps → ℕ → Stage → Stage
stamps_then stamps zero after = after
stamps_then stamps (suc n) after = stage.Stamp stamps (suc n)

abbrev pub undoes : ℕ → Stage
undoes zero = stage.Done
undoes (suc n) = stage.Undo (suc n)

-- ---- by the phase of the transaction, which wrote so many keys

-- a prepare marks them first, where it is not refused for the phase
abbrev pub first_mark : Phase → ℕ → ℕ → Stage
first_mark phase.Running stamp keys = marks stamp keys
first_mark _ stamp keys = stage.Release stamp

-- a commit looks below them first
abbrev pub first_order : Phase → CommitStamps → ℕ → Stage
first_order phase.Running stamps keys = orders stamps keys (stage.Decide stamps)
first_order (phase.Prepared stamp) stamps keys = orders stamps keys (stage.Decide stamps)
first_order _ stamps keys = stage.Decide stamps

-- after that a prepared one is decided, and any other stamps them first
abbrev pub after_orders : Phase → CommitStamps → ℕ → Stage
after_orders (phase.Prepared stamp) stamps keys = stage.Decide stamps
after_orders _ stamps keys = stamps_then stamps keys (stage.Decide stamps)

-- a prepared one is decided before they are stamped, and any other after
abbrev pub after_stamps : Phase → CommitStamps → Stage
after_stamps phase.Running stamps = stage.Decide stamps
after_stamps _ stamps = stage.Done

abbrev pub undo_or_resolve : ℕ → Stage
undo_or_resolve zero = stage.Resolve
undo_or_resolve (suc n) = stage.Undo (suc n)

-- a rollback takes them out first, where the transaction is not prepared
abbrev pub first_undo : Phase → ℕ → Stage
first_undo phase.Running keys = undo_or_resolve keys
first_undo phase.Failed keys = undo_or_resolve keys
first_undo _ keys = stage.Resolve
