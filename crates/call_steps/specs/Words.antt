-- What a session's next event is on, and what an event on a word makes of the session.
use Rattle.std.specs.Prelude.{ℕ, ◌+◌, ◌==◌, List, [], Option, Some, None, if◌then◌else◌}
use Rattle.wt_code.specs.declared.answers.Answer.{Answer}
use Rattle.wt_code.specs.declared.answers.Answer.TheVariants as answer
use Rattle.wt_code.specs.declared.refusals.Refusal.{Refusal}
use Rattle.wt_code.specs.declared.refusals.Refusal.TheVariants as refusal
use Rattle.wt_code.specs.declared.refusals.Invalid.{Invalid}
use Rattle.wt_code.specs.declared.refusals.Invalid.TheVariants as invalid
use Rattle.kv_model.specs.Machine.{of_some}
use Rattle.txn_table.specs.declared.phase.Phase.{Phase}
use Rattle.txn_table.specs.declared.phase.Phase.TheVariants as phase
use Rattle.call_steps.specs.declared.next.Next.{Next}
use Rattle.call_steps.specs.declared.next.Next.TheVariants as next
use Rattle.call_steps.specs.declared.reply.Reply.{Reply}
use Rattle.call_steps.specs.declared.reply.Reply.TheVariants as reply
use Rattle.call_steps.specs.declared.stage.KeyCall.{KeyCall}
use Rattle.call_steps.specs.declared.stage.Stage.{Stage}
use Rattle.call_steps.specs.declared.stage.Stage.TheVariants as stage
use Rattle.call_steps.specs.declared.stage.Target.{Target}
use Rattle.call_steps.specs.declared.stage.Wanted.{Wanted}
use Rattle.call_steps.specs.Stages.{cursor_in}
use Rattle.call_steps.specs.State.{State, at_stage, refuses, changed_at, unpinned, placed, cursor_word, first_pinned, clears, without_answer}
use Rattle.call_steps.specs.Written.{frame_at}

-- the state of a session in which its calls are refused, unless it runs
abbrev pub unless_running : Phase → Option Invalid
unless_running phase.Idle = Some invalid.NoTxn
unless_running phase.Running = None
unless_running phase.Failed = Some invalid.FailedTxn
unless_running phase.Leaving = Some invalid.FailedTxn
unless_running (phase.Prepared stamp) = Some invalid.Prepared
unless_running phase.Resolving = Some invalid.Prepared

-- the word of a cursor that is reset; the call's, which is clear, where that is refused
abbrev pub reset_word : State → ℕ → ℕ
reset_word s cursor = of_some (cursor_word s cursor) (λ reason. s.word) (unless_running s.phase)

-- the word that a cursor's call clears first
abbrev pub missed_word : State → Option ℕ → ℕ
missed_word s None = s.word
missed_word s (Some cursor) = cursor_word s cursor

abbrev pub next_at : Stage → State → Next
next_at stage.Rest s = next.Nothing
next_at (stage.Begin read) s = next.Hub
next_at (stage.Find call) s = next.Hub
next_at (stage.Fill call wanted) s = next.Fill wanted.leaf
next_at (stage.Publish call target) s = next.Store s.word (target.frame + 1)
next_at (stage.Validate call target) s = next.Load target.frame
next_at (stage.Look call target) s = next.Frame target.frame
next_at (stage.Pass call target) s = next.Hub
next_at (stage.History call target) s = next.Hub
next_at (stage.ClearCursor call target) s = next.Store (missed_word s (cursor_in call)) 0
next_at (stage.Clear call target) s = next.Store s.word 0
next_at (stage.Reset cursor) s = next.Store (reset_word s cursor) 0
next_at (stage.Mark stamp left) s = next.Frame (frame_at s.written left)
next_at (stage.Release stamp) s = next.Hub
next_at (stage.Order stamps left) s = next.Frame (frame_at s.written left)
next_at (stage.Stamp stamps left) s = next.Frame (frame_at s.written left)
next_at (stage.Decide stamps) s = next.Hub
next_at stage.Resolve s = next.Hub
next_at (stage.Undo left) s = next.Frame (frame_at s.written left)
next_at stage.Done s = next.Hub
next_at (stage.Unpin cursor) s = next.Store (cursor_word s cursor) 0

abbrev pub next_of : State → Next
next_of s = next_at s.stage s

-- ---- loads

abbrev pub validated : KeyCall → Target → ℕ → State → State
validated call target seen s = if seen == target.word then at_stage (stage.Look call target) s else clears call target (answer.Refused (refusal.Again seen)) s

abbrev pub loaded_at : Stage → ℕ → State → State
loaded_at (stage.Validate call target) seen s = validated call target seen s
loaded_at _ seen s = s

abbrev pub loaded : ℕ → State → State
loaded seen s = loaded_at s.stage seen s

-- ---- a leaf that cannot be had

-- what would name a leaf's frame names none
abbrev pub unframed : Wanted → Target
unframed wanted = record { table = wanted.table; leaf = wanted.leaf; frame = 0; word = 0 }

abbrev pub kept_out_at : Stage → Refusal → State → State
kept_out_at (stage.Fill call wanted) r s = clears call (unframed wanted) (answer.Refused r) s
kept_out_at _ r s = s

-- the call that waits for a leaf is refused so
abbrev pub kept_out : Refusal → State → State
kept_out r s = kept_out_at s.stage r s

-- ---- stores

-- the call ends with the answer that was decided
abbrev pub ends : State → Reply × State
ends s = (reply.Answer s.answer, at_stage stage.Rest (without_answer s))

-- where the answer of a look takes a cursor: to the key that is kept, to no row, or nowhere else
abbrev pub landed : ℕ → Target → Answer (List ℕ) → State → State
landed cursor target (answer.Value v) s = record s { cursors = changed_at s.cursors cursor (placed (Some (record { table = target.table; key = s.key }))); key = [] }
landed cursor target (answer.Row key v) s = record s { cursors = changed_at s.cursors cursor (placed (Some (record { table = target.table; key = s.key }))); key = [] }
landed cursor target (answer.Refused refusal.NotFound) s = record s { cursors = changed_at s.cursors cursor (placed None) }
landed cursor target _ s = s

abbrev pub cleared : KeyCall → Target → State → Reply × State
cleared call target s = ends (of_some s (λ cursor. landed cursor target s.answer s) (cursor_in call))

-- the cursor's word is clear
abbrev pub missed : KeyCall → Target → State → State
missed call target s = record s {
  stage = stage.Clear call target;
  cursors = of_some s.cursors (λ cursor. changed_at s.cursors cursor unpinned) (cursor_in call);
}

abbrev pub reset : ℕ → State → Reply × State
reset cursor s = (reply.Answer answer.Done, record s { stage = stage.Rest; cursors = changed_at s.cursors cursor (λ k. placed None (unpinned k)) })

abbrev pub reset_or_refused : ℕ → State → Reply × State
reset_or_refused cursor s = of_some (reset cursor s) (λ reason. refuses (refusal.Invalid reason) s) (unless_running s.phase)

-- one cursor's word more is clear, and the last one ends the call
abbrev pub unpinned_in : ℕ → State → State
unpinned_in cursor s = record s { cursors = changed_at s.cursors cursor unpinned }

abbrev pub unpins_on : State → Reply × State
unpins_on s = of_some (ends s) (λ cursor. (reply.More, at_stage (stage.Unpin cursor) s)) (first_pinned s.cursors)

abbrev pub unpins : ℕ → State → Reply × State
unpins cursor s = unpins_on (unpinned_in cursor s)

abbrev pub stored_at : Stage → State → Reply × State
stored_at (stage.Publish call target) s = (reply.More, at_stage (stage.Validate call target) s)
stored_at (stage.ClearCursor call target) s = (reply.More, missed call target s)
stored_at (stage.Clear call target) s = cleared call target s
stored_at (stage.Reset cursor) s = reset_or_refused cursor s
stored_at (stage.Unpin cursor) s = unpins cursor s
stored_at _ s = (reply.More, s)

abbrev pub stored : State → Reply × State
stored s = stored_at s.stage s
