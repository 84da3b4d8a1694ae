-- What the events on a frame's piece make of it and of the session.
use Rattle.std.specs.Prelude.{◌≡◌, ℕ, List, length, Option, Some, None, option_map}
use Rattle.stamp.specs.declared.View.{View}
use Rattle.wt_code.specs.declared.answers.Answer.TheVariants as answer
use Rattle.wt_code.specs.declared.refusals.Refusal.TheVariants as refusal
use Rattle.kv_model.specs.Refusals.{stamp_of}
use Rattle.leaf_chains.specs.declared.slot.KeyChain.{KeyChain}
use Rattle.leaf_frame.specs.Leaf.{HeldLeaf}
use Rattle.call_steps.specs.declared.edit.Edit.{Edit}
use Rattle.call_steps.specs.declared.edit.Edit.TheVariants as edit
use Rattle.call_steps.specs.declared.frame.Frame.{Frame}
use Rattle.call_steps.specs.declared.frame.FramePiece.{FramePiece}
use Rattle.call_steps.specs.declared.stage.CommitStamps.{CommitStamps}
use Rattle.call_steps.specs.declared.stage.KeyCall.{KeyCall}
use Rattle.call_steps.specs.declared.stage.Stage.{Stage}
use Rattle.call_steps.specs.declared.stage.Stage.TheVariants as stage
use Rattle.call_steps.specs.declared.stage.Target.{Target}
use Rattle.call_steps.specs.Stages.{marks, orders, stamps_then, undoes, after_orders, after_stamps}
use Rattle.call_steps.specs.Leaves.{leaf_changed, leaf_prev, edited, durable_of}
use Rattle.call_steps.specs.Written.{frame_at, leaf_start}
use Rattle.call_steps.specs.Looks.{own_name, LookedBy}
use Rattle.call_steps.specs.State.{State, at_stage, answered, leaving_in}

abbrev pub with_leaf : HeldLeaf → Frame → Frame
with_leaf leaf f = record f { leaf = leaf }

abbrev pub with_chains : List KeyChain → Frame → Frame
with_chains slots f = record f { leaf = record f.leaf { chains = slots } }

-- the chains of the leaf, where the frame has one, are changed
abbrev pub piece_changed : (List KeyChain → List KeyChain) → FramePiece → FramePiece
piece_changed change p = record p { frame = option_map (λ (f : Frame). with_chains (change f.leaf.chains) f) p.frame }

-- ---- looks

-- a frame without a leaf is passed over; the word that was looked at says that there is one
abbrev pub LookMade : Option Frame → KeyCall → View → Target → FramePiece → State → FramePiece → State → Type 0
LookMade None call view target p s p' s' = (p' ≡ p) × (s' ≡ answered call target (answer.Refused (refusal.Again 0)) s)
LookMade (Some f) call view target p s p' s' =
    (leaf : HeldLeaf) × (p' ≡ record p { frame = Some (with_leaf leaf f) }) × LookedBy call view target f.leaf s leaf s'

-- ---- what was written in a leaf

-- the keys of the leaf that ends the first `left`
abbrev pub starts_at : State → ℕ → ℕ
starts_at s left = leaf_start s.written (frame_at s.written left) left

abbrev pub edits : View → Edit → State → ℕ → FramePiece → FramePiece
edits view edit s left p = piece_changed (leaf_changed (edited (own_name view) edit) s.written (frame_at s.written left) left) p

abbrev pub prev_in : Option Frame → State → ℕ → ℕ → ℕ
prev_in None s left prev = prev
prev_in (Some f) s left prev = leaf_prev s.written (frame_at s.written left) left f.leaf prev

abbrev pub with_prev : CommitStamps → ℕ → CommitStamps
with_prev stamps prev = record stamps { prev = prev }

abbrev pub ordered : CommitStamps → ℕ → State → State
ordered stamps left s = at_stage (orders stamps left (after_orders s.phase stamps (length s.written))) s

abbrev pub FrameMadeAt : Stage → View → FramePiece → State → FramePiece → State → Type 0
FrameMadeAt (stage.Look call target) view p s p' s' = LookMade p.frame call view target p s p' s'
FrameMadeAt (stage.Mark stamp left) view p s p' s' = (p' ≡ edits view (edit.Mark stamp) s left p) × (s' ≡ at_stage (marks stamp (starts_at s left)) s)
FrameMadeAt (stage.Order stamps left) view p s p' s' =
    (p' ≡ p) × (s' ≡ ordered (with_prev stamps (prev_in p.frame s left stamps.prev)) (starts_at s left) s)
FrameMadeAt (stage.Stamp stamps left) view p s p' s' =
    (p' ≡ edits view (edit.Stamp (stamp_of stamps.commit) (durable_of s.phase stamps)) s left p)
    × (s' ≡ at_stage (stamps_then stamps (starts_at s left) (after_stamps s.phase stamps)) s)
FrameMadeAt (stage.Undo left) view p s p' s' = (p' ≡ edits view edit.Undo s left p) × (s' ≡ at_stage (undoes (starts_at s left)) (leaving_in s.phase s))
FrameMadeAt _ view p s p' s' = (p' ≡ p) × (s' ≡ s)

abbrev pub FrameMade : View → FramePiece → State → FramePiece → State → Type 0
FrameMade view p s p' s' = FrameMadeAt s.stage view p s p' s'
