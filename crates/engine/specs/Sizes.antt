-- The sizes of what an engine keeps: all of it fits the rows of a leaf.
use Rattle.std.specs.Prelude.{◌≡◌, ◌≤◌, ◌+◌, ◌<◌, ◌^◌, ℕ, true, List, length, Some, slice_get}
use Rattle.limits.specs.declared.TheConstants.{KEY_MAX, VALUE_MAX, NUMBER_MAX}
use Rattle.kv_model.specs.Refusals.{or_stamp, stamp_of}
use Rattle.txn_table.specs.declared.phase.Phase.{Phase}
use Rattle.txn_table.specs.declared.phase.Phase.TheVariants as phase
use Rattle.txn_table.specs.Tabled.{Table, session_of}
use Rattle.reconcile.specs.Capture.{ChainsFit}
use Rattle.leaf_frame.specs.Leaf.{HeldLeaf}
use Rattle.call_steps.specs.declared.frame.Frame.{Frame}
use Rattle.call_steps.specs.declared.frame.FramePiece.{FramePiece}
use Rattle.call_steps.specs.declared.stage.CommitStamps.{CommitStamps}
use Rattle.call_steps.specs.declared.stage.KeyCall.{KeyCall}
use Rattle.call_steps.specs.declared.stage.Stage.{Stage}
use Rattle.call_steps.specs.declared.stage.Stage.TheVariants as stage
use Rattle.call_steps.specs.Stages.{is_write}
use Rattle.call_steps.specs.State.{State}
use Rattle.engine_world.specs.Leaves.{frame_in}
use Rattle.engine_world.specs.Stands.{Engine}

-- the chains of a leaf fit; the rows of its page do at any time
abbrev pub LeafFits : HeldLeaf → Type 0
LeafFits leaf = ChainsFit leaf.chains

-- so each leaf's
abbrev pub LeavesFit : List FramePiece → Type 0
LeavesFit pieces = (place : ℕ) (f : Frame) → frame_in pieces place ≡ Some f → LeafFits f.leaf

-- the key and the value of a call fit
abbrev pub ItemsFit : State → Type 0
ItemsFit a = (length a.key ≤ KEY_MAX) × (length a.value ≤ VALUE_MAX)

-- and its transaction has drawn this id where the call writes
abbrev pub KeyCallFits : KeyCall → ℕ → State → Type 0
KeyCallFits call id a = ItemsFit a × (is_write call ≡ true → 1 ≤ id)

-- a commit looks below the updates of a transaction that runs or is prepared
abbrev pub MayOrder : Phase → Type 0
MayOrder phase.Running = Unit {0}
MayOrder (phase.Prepared stamp) = Unit {0}
MayOrder _ = ⊥

-- it stamps those of one that runs, or of one that was prepared, whose two stamps are in order
abbrev pub MayStamp : Phase → CommitStamps → Type 0
MayStamp phase.Running stamps = Unit {0}
MayStamp phase.Resolving stamps = stamp_of stamps.commit ≤ or_stamp (stamp_of stamps.durable) (stamp_of stamps.commit)
MayStamp _ stamps = ⊥

-- a call fits, whose transaction has this id: its items from the event that finds its table up to the last look, and its stamps where it commits
abbrev pub CallFitsAt : Stage → ℕ → State → Type 0
CallFitsAt (stage.Fill call wanted) id a = KeyCallFits call id a
CallFitsAt (stage.Publish call target) id a = KeyCallFits call id a
CallFitsAt (stage.Validate call target) id a = KeyCallFits call id a
CallFitsAt (stage.Look call target) id a = KeyCallFits call id a
CallFitsAt (stage.Pass call target) id a = KeyCallFits call id a
CallFitsAt (stage.Order stamps left) id a = MayOrder a.phase
CallFitsAt (stage.Stamp stamps left) id a = MayStamp a.phase stamps
CallFitsAt _ id a = Unit {0}

-- the id of the session's transaction, 0 where it has drawn none
abbrev pub id_of : Table → ℕ → ℕ
id_of t session = (session_of t session).id

-- so each session's
abbrev pub SessionsFit : Table → List State → Type 0
SessionsFit t sessions = (session : ℕ) (a : State) → slice_get sessions session ≡ Some a → CallFitsAt a.stage (id_of t session) a

-- the run and the ids that are drawn fit, and each sight is of this run
pub record NamesFit (t : Table) : Type 0 where
  pub begun : 1 ≤ t.run
  pub run : t.run ≤ NUMBER_MAX
  pub first : 1 ≤ t.next
  pub next : t.next ≤ NUMBER_MAX + 1
  pub drawn : (session : ℕ) → id_of t session < t.next
  pub sights : (session : ℕ) → (session_of t session).sight.run ≡ t.run

pub record SizesFit (e : Engine) : Type 0 where
  pub leaves : LeavesFit e.pieces
  pub sessions : SessionsFit e.hub.txns e.sessions
  pub names : NamesFit e.hub.txns

-- the stamps with which a commit stamps updates have 64 bits
abbrev pub StampsFitAt : Stage → Type 0
StampsFitAt (stage.Stamp stamps left) = (stamp_of stamps.commit < 2 ^ 64) × (stamp_of stamps.durable < 2 ^ 64)
StampsFitAt _ = Unit {0}
