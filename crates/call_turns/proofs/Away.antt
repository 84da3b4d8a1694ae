-- Stages that are away from a leaf.
use Rattle.std.proofs.Common.{◌≡◌, ℕ, zero, suc, List, subst}
use Rattle.std.specs.Prelude.{Option, Some, None}
use Rattle.wt_code.specs.declared.answers.Answer.{Answer}
use Rattle.wt_code.specs.declared.answers.Answer.TheVariants as answers
use Rattle.wt_code.specs.declared.refusals.Refusal.TheVariants as refusal
use Rattle.kv_model.specs.Machine.{of_some}
use Rattle.txn_table.specs.declared.phase.Phase.{Phase}
use Rattle.txn_table.specs.declared.phase.Phase.TheVariants as phase
use Rattle.call_steps.specs.declared.stage.CommitStamps.{CommitStamps}
use Rattle.call_steps.specs.declared.stage.KeyCall.{KeyCall}
use Rattle.call_steps.specs.declared.stage.Stage.{Stage}
use Rattle.call_steps.specs.declared.stage.Stage.TheVariants as stage
use Rattle.call_steps.specs.declared.stage.Target.{Target}
use Rattle.call_steps.specs.Stages.{after_orders, after_stamps, cursor_in, first_mark, first_order, first_undo, marks, orders, stamps_then, undo_or_resolve, undoes}
use Rattle.call_steps.specs.State.{State, answered, clears, finished, first_pinned, moves}
use Rattle.call_turns.specs.Seats.{IsAtLeaf, RunsAtLeaf}
use Rattle.call_turns.proofs.Pins.{finished_by}

abbrev pub IsAway : Stage → Type 0
IsAway g = IsAtLeaf g → ⊥

-- nothing is asked of a transaction there
pub away : (a : State) → IsAway a.stage → RunsAtLeaf a
away a off = record { runs = λ on. absurd (off on) }

pub away-at : (a : State) (g : Stage) → a.stage ≡ g → IsAway g → RunsAtLeaf a
away-at a g is off = away a (λ on. off (subst IsAtLeaf is on))

-- ---- the end of a transaction, and an answer

pub finished-away : (answer : Answer (List ℕ)) (a : State) → IsAway (finished answer a).1.stage
finished-away answer a = by (first_pinned a.cursors) where
  by : (o : Option ℕ) → IsAway (finished_by o answer a).1.stage
  by None on = on
  by (Some cursor) on = on

pub answered-away : (call : KeyCall) (target : Target) (answer : Answer (List ℕ)) (a : State) → IsAway (answered call target answer a).stage
answered-away call target answer a = by-cursor (cursor_in call) where
  by-answer : (cursor : ℕ) (answer : Answer (List ℕ)) → IsAway (moves cursor call target answer a).stage
  by-answer cursor (answers.Refused refusal.NotFound) on = on
  by-answer cursor answer on = on

  by-cursor : (o : Option ℕ) → IsAway (of_some (clears call target answer a) (λ cursor. moves cursor call target answer a) o).stage
  by-cursor None on = on
  by-cursor (Some cursor) on = by-answer cursor answer on

-- ---- keys that were written

pub marks-away : (stamp keys : ℕ) → IsAway (marks stamp keys)
marks-away stamp zero on = on
marks-away stamp (suc n) on = on

pub orders-away : (stamps : CommitStamps) (keys : ℕ) (after : Stage) → IsAway after → IsAway (orders stamps keys after)
orders-away stamps zero after off on = off on
orders-away stamps (suc n) after off on = on

pub stamps-away : (stamps : CommitStamps) (keys : ℕ) (after : Stage) → IsAway after → IsAway (stamps_then stamps keys after)
stamps-away stamps zero after off on = off on
stamps-away stamps (suc n) after off on = on

pub undoes-away : (keys : ℕ) → IsAway (undoes keys)
undoes-away zero on = on
undoes-away (suc n) on = on

undo-or-resolve-away : (keys : ℕ) → IsAway (undo_or_resolve keys)
undo-or-resolve-away zero on = on
undo-or-resolve-away (suc n) on = on

-- ---- by the phase of the transaction

pub after-orders-away : (p : Phase) (stamps : CommitStamps) (keys : ℕ) → IsAway (after_orders p stamps keys)
after-orders-away (phase.Prepared at) stamps keys on = on
after-orders-away _ stamps keys on = stamps-away stamps keys (stage.Decide stamps) (λ off. off) on

pub after-stamps-away : (p : Phase) (stamps : CommitStamps) → IsAway (after_stamps p stamps)
after-stamps-away phase.Running stamps on = on
after-stamps-away _ stamps on = on

pub first-mark-away : (p : Phase) (stamp keys : ℕ) → IsAway (first_mark p stamp keys)
first-mark-away phase.Running stamp keys on = marks-away stamp keys on
first-mark-away _ stamp keys on = on

pub first-order-away : (p : Phase) (stamps : CommitStamps) (keys : ℕ) → IsAway (first_order p stamps keys)
first-order-away phase.Running stamps keys on = orders-away stamps keys (stage.Decide stamps) (λ off. off) on
first-order-away (phase.Prepared at) stamps keys on = orders-away stamps keys (stage.Decide stamps) (λ off. off) on
first-order-away _ stamps keys on = on

pub first-undo-away : (p : Phase) (keys : ℕ) → IsAway (first_undo p keys)
first-undo-away phase.Running keys on = undo-or-resolve-away keys on
first-undo-away phase.Failed keys on = undo-or-resolve-away keys on
first-undo-away _ keys on = on
