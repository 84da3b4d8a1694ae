-- An event on a word leaves fewer steps, and so does the refusal of a leaf.
use Rattle.std.proofs.Common.{◌≡◌, ◌<◌, ◌+◌, ℕ, refl, List, arith}
use Rattle.std.specs.Prelude.{Option, Some, None}
use Rattle.wt_code.specs.declared.answers.Answer.TheVariants as answers
use Rattle.wt_code.specs.declared.refusals.Refusal.TheVariants as refusal
use Rattle.wt_code.specs.declared.refusals.Invalid.{Invalid}
use Rattle.kv_model.specs.Machine.{of_some}
use Rattle.tree_dir.specs.declared.leaf.Leaf.{Leaf}
use Rattle.call_steps.specs.declared.next.Next.TheVariants as next
use Rattle.call_steps.specs.declared.reply.Reply.TheVariants as reply
use Rattle.call_steps.specs.declared.stage.Stage.{Stage}
use Rattle.call_steps.specs.declared.stage.Stage.TheVariants as stage
use Rattle.call_steps.specs.State.{State, at_stage, first_pinned, refuses}
use Rattle.call_steps.specs.Words.{ends, next_at, reset, stored_at, unless_running, unpinned_in}
use Rattle.call_turns.specs.Turns.{IsNoAnswer, StoreLowers, pinned, turns, turns_at}
use Rattle.call_turns.proofs.Pins.{first-is, one-less}

reset-ends : (leaves : List Leaf) (cursor n : ℕ) (a : State) (o : Option Invalid) → let made = of_some (reset cursor a) (λ reason. refuses (refusal.Invalid reason) a) o in IsNoAnswer made.0 → turns leaves made.1 < n
reset-ends leaves cursor n a None goes = absurd (goes answers.Done refl)
reset-ends leaves cursor n a (Some reason) goes = absurd (goes (answers.Refused (refusal.Invalid reason)) refl)

-- one cursor's word less is left
unpins-less : (leaves : List Leaf) (a : State) (o : Option ℕ) → first_pinned a.cursors ≡ o → let made = of_some (ends a) (λ cursor. (reply.More, at_stage (stage.Unpin cursor) a)) o in IsNoAnswer made.0 → turns leaves made.1 < pinned a + 1
unpins-less leaves a None is goes = absurd (goes a.answer refl)
unpins-less leaves a (Some i) is goes = let less = one-less a.cursors i (first-is a.cursors i is) in omega (arith, less)

pub store-lowers : StoreLowers
store-lowers leaves a word value = by a.stage where
  by : (g : Stage) → next_at g a ≡ next.Store word value → IsNoAnswer (stored_at g a).0 → turns leaves (stored_at g a).1 < turns_at g leaves a
  by (stage.Publish call target) on goes = omega arith
  by (stage.ClearCursor call target) on goes = omega arith
  by (stage.Clear call target) on goes = omega arith
  by (stage.Reset cursor) on goes = reset-ends leaves cursor 1 a (unless_running a.phase) goes
  by (stage.Unpin cursor) on goes = unpins-less leaves (unpinned_in cursor a) (first_pinned (unpinned_in cursor a).cursors) refl goes
  by _ on goes = absurd cc
