-- What the start of a call makes of a session.
use Rattle.std.specs.Prelude.{◌≡◌, ℕ, List, [], length, Option, IsPermutation}
use Rattle.std.specs.List.Sorted.{IsNonDecreasingBy}
use Rattle.wt_code.specs.declared.answers.Answer.TheVariants as answer
use Rattle.wt_code.specs.declared.refusals.Refusal.TheVariants as refusal
use Rattle.wt_code.specs.declared.refusals.Invalid.TheVariants as invalid
use Rattle.wt_calls.specs.declared.SessionCall.{SessionCall}
use Rattle.wt_calls.specs.declared.SessionCall.TheVariants as call
use Rattle.call_steps.specs.declared.reply.Reply.{Reply}
use Rattle.call_steps.specs.declared.reply.Reply.TheVariants as reply
use Rattle.call_steps.specs.declared.stage.CommitStamps.{CommitStamps}
use Rattle.call_steps.specs.declared.stage.KeyCall.{KeyCall}
use Rattle.call_steps.specs.declared.stage.KeyCall.TheVariants as key_call
use Rattle.call_steps.specs.declared.stage.Stage.{Stage}
use Rattle.call_steps.specs.declared.stage.Stage.TheVariants as stage
use Rattle.call_steps.specs.declared.written.WrittenKey.{WrittenKey}
use Rattle.call_steps.specs.Stages.{first_mark, first_order, first_undo}
use Rattle.call_steps.specs.State.{State, at_stage}

-- a call on a leaf
abbrev pub asks : KeyCall → List ℕ → List ℕ → List ℕ → State → State
asks call name key value s = record s { stage = stage.Find call; name = name; key = key; value = value }

abbrev pub stamps_given : Option ℕ → Option ℕ → CommitStamps
stamps_given commit durable = record { commit = commit; durable = durable; prev = 0 }

-- the same keys, those of one leaf one behind the other
pub record AreArranged (old new : List WrittenKey) : Type 0 where
  pub same : IsPermutation old new
  pub by_leaf : IsNonDecreasingBy (λ (k : WrittenKey). k.frame) new

-- the keys that were written are arranged, and the first event is this
pub record Arranges (stage : Stage) (s s' : State) : Type 0 where
  pub keys : List WrittenKey
  pub arranged : AreArranged s.written keys
  pub state : s' ≡ record s { stage = stage; written = keys }

abbrev pub StartsAt : SessionCall → State → State → Type 0
StartsAt (call.Begin read) s s' = s' ≡ at_stage (stage.Begin read) s
StartsAt (call.Get table key) s s' = s' ≡ asks key_call.Get table key [] s
StartsAt (call.Put table key value demand) s s' = s' ≡ asks (key_call.Put demand) table key value s
StartsAt (call.Remove table key) s s' = s' ≡ asks key_call.Remove table key [] s
StartsAt (call.Seek cursor table key) s s' = s' ≡ asks (key_call.Seek cursor) table key [] s
StartsAt (call.Step cursor table way) s s' = s' ≡ asks (key_call.Step cursor way) table [] [] s
StartsAt (call.Reset cursor) s s' = s' ≡ at_stage (stage.Reset cursor) s
StartsAt (call.Prepare stamp) s s' = Arranges (first_mark s.phase stamp (length s.written)) s s'
StartsAt (call.Commit commit durable) s s' = Arranges (first_order s.phase (stamps_given commit durable) (length s.written)) s s'
StartsAt call.Rollback s s' = Arranges (first_undo s.phase (length s.written)) s s'

-- refused where a call is not finished
abbrev pub StartsIn : Stage → SessionCall → State → Reply → State → Type 0
StartsIn stage.Rest call s r s' = (r ≡ reply.Started) × StartsAt call s s'
StartsIn _ call s r s' = (r ≡ reply.Answer (answer.Refused (refusal.Invalid invalid.InCall))) × (s' ≡ s)

abbrev pub Starts : SessionCall → State → Reply → State → Type 0
Starts call s r s' = StartsIn s.stage call s r s'
