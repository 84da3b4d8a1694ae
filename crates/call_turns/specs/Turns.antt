-- How many steps a session's call has left at most, as its data says. Each event leaves fewer, whatever a device brought.
use Rattle.std.specs.Prelude.{◌≡◌, ◌<◌, ◌⊎◌, ℕ, ◌+◌, ◌*◌, ◌^◌, ◌==◌, List, [], ◌∷◌, length, filter, Option, Some, None, if◌then◌else◌}
use Rattle.stamp.specs.declared.View.{View}
use Rattle.wt_code.specs.declared.answers.Answer.{Answer}
use Rattle.wt_code.specs.declared.refusals.Refusal.{Refusal}
use Rattle.kv_model.specs.Rows.{Way, Up, Down}
use Rattle.wt_calls.specs.Calls.{way_in}
use Rattle.tree_dir.specs.declared.leaf.Framed.{Framed}
use Rattle.tree_dir.specs.declared.leaf.Leaf.{Leaf}
use Rattle.tree_dir.specs.Leaves.{IsDirectory, changed, in_frame, leaf_named}
use Rattle.txn_table.specs.declared.phase.Phase.{Phase}
use Rattle.txn_table.specs.declared.phase.Phase.TheVariants as phase
use Rattle.call_steps.specs.declared.frame.FramePiece.{FramePiece}
use Rattle.call_steps.specs.declared.hub.Hub.{Hub}
use Rattle.call_steps.specs.declared.next.Next.TheVariants as next
use Rattle.call_steps.specs.declared.reply.Reply.{Reply}
use Rattle.call_steps.specs.declared.reply.Reply.TheVariants as reply
use Rattle.call_steps.specs.declared.stage.KeyCall.{KeyCall}
use Rattle.call_steps.specs.declared.stage.KeyCall.TheVariants.{Step}
use Rattle.call_steps.specs.declared.stage.Stage.{Stage}
use Rattle.call_steps.specs.declared.stage.Stage.TheVariants as stage
use Rattle.call_steps.specs.FrameEvents.{FrameMade}
use Rattle.call_steps.specs.HubEvents.{hub_made}
use Rattle.call_steps.specs.State.{State, is_pinned}
use Rattle.call_steps.specs.Words.{kept_out, loaded, next_of, stored, unpinned_in}

-- ---- leaves

-- those behind the leaf of this id, in the order of the directory
abbrev pub all_behind : ℕ → List Leaf → List Leaf
all_behind id [] = []
all_behind id (l ∷ leaves) = if l.id == id then leaves else all_behind id leaves

-- those before it
abbrev pub all_ahead : ℕ → List Leaf → List Leaf
all_ahead id [] = []
all_ahead id (l ∷ leaves) = if l.id == id then [] else l ∷ all_ahead id leaves

-- how many are further on the way
abbrev pub leaves_on : Way → ℕ → List Leaf → ℕ
leaves_on Up id leaves = length (all_behind id leaves)
leaves_on Down id leaves = length (all_ahead id leaves)

-- how many a call may still go to from the leaf of this id
abbrev pub leaves_left : KeyCall → ℕ → List Leaf → ℕ
leaves_left (Step cursor way) id leaves = leaves_on (way_in way) id leaves
leaves_left _ id leaves = 0

-- ---- steps

-- a leaf that a walk goes past takes it five steps
abbrev pub further : KeyCall → ℕ → List Leaf → ℕ
further call id leaves = 5 * leaves_left call id leaves

-- no directory has more leaves
abbrev pub find_turns : ℕ
find_turns = 8 + 5 * 2 ^ 28

-- a leaf that is gone is sought anew
abbrev pub fill_turns : Option Leaf → KeyCall → ℕ → List Leaf → ℕ
fill_turns None call id leaves = find_turns + 1
fill_turns (Some l) call id leaves = 7 + further call id leaves

-- the hazard words of positioned cursors, which the end of a transaction clears
abbrev pub pinned : State → ℕ
pinned a = length (filter is_pinned a.cursors)

abbrev pub done_turns : State → ℕ
done_turns a = pinned a + 1

abbrev pub decide_turns : State → ℕ
decide_turns a = length a.written + (done_turns a + 2)

-- after the stamps a transaction that runs is decided, and any other ends
abbrev pub stamp_turns : Phase → ℕ → State → ℕ
stamp_turns phase.Running left a = left + (decide_turns a + 1)
stamp_turns _ left a = left + (done_turns a + 1)

-- by the stage of the call
abbrev pub turns_at : Stage → List Leaf → State → ℕ
turns_at stage.Rest leaves a = 0
turns_at (stage.Begin read) leaves a = 1
turns_at (stage.Find call) leaves a = find_turns
turns_at (stage.Fill call wanted) leaves a = fill_turns (leaf_named wanted.leaf leaves) call wanted.leaf leaves
turns_at (stage.Publish call target) leaves a = 6 + further call target.leaf leaves
turns_at (stage.Validate call target) leaves a = 5 + further call target.leaf leaves
turns_at (stage.Look call target) leaves a = 4 + further call target.leaf leaves
turns_at (stage.Pass call target) leaves a = 3 + further call target.leaf leaves
turns_at (stage.History call target) leaves a = 3
turns_at (stage.ClearCursor call target) leaves a = 2
turns_at (stage.Clear call target) leaves a = 1
turns_at (stage.Reset cursor) leaves a = 1
turns_at (stage.Mark stamp left) leaves a = left + 2
turns_at (stage.Release stamp) leaves a = 1
turns_at (stage.Order stamps left) leaves a = left + (length a.written + (decide_turns a + 2))
turns_at (stage.Stamp stamps left) leaves a = stamp_turns a.phase left a
turns_at (stage.Decide stamps) leaves a = decide_turns a
turns_at stage.Resolve leaves a = decide_turns a
turns_at (stage.Undo left) leaves a = left + (done_turns a + 1)
turns_at stage.Done leaves a = done_turns a
turns_at (stage.Unpin cursor) leaves a = pinned (unpinned_in cursor a) + 1

-- how many steps the call has left at most; none where there is no call
abbrev pub turns : List Leaf → State → ℕ
turns leaves a = turns_at a.stage leaves a

-- ---- events

-- the call has not ended
abbrev pub IsNoAnswer : Reply → Type 0
IsNoAnswer told = (answer : Answer (List ℕ)) → told ≡ reply.Answer answer → ⊥

-- the leaf that the call waits for is gone, or in a frame
abbrev pub IsReady : List Leaf → Stage → Type 0
IsReady leaves (stage.Fill call wanted) = (leaf_named wanted.leaf leaves ≡ None) ⊎ ((l : Leaf) × (f : Framed) × (leaf_named wanted.leaf leaves ≡ Some l) × (l.frame ≡ Some f))
IsReady leaves _ = ⊥

-- the call's next event is on the hub
abbrev pub IsHubNext : Hub → State → Type 0
IsHubNext h a = (next_of a ≡ next.Hub) ⊎ IsReady h.dir.leaves a.stage

abbrev pub HubLowers : Type 0
HubLowers = (h : Hub) (session : ℕ) (a : State) → IsDirectory h.dir → IsHubNext h a → IsNoAnswer (hub_made h session a).0
    → turns h.dir.leaves (hub_made h session a).1.1 < turns h.dir.leaves a

-- the directory and the tables stay, and so do the places of the sessions, the run of the engine and what failed
pub record IsKept (old new : Hub) : Type 0 where
  pub dir : new.dir ≡ old.dir
  pub tables : new.tables ≡ old.tables
  pub places : length new.txns.sessions ≡ length old.txns.sessions
  pub run : new.txns.run ≡ old.txns.run
  pub fault : new.fault ≡ old.fault

abbrev pub HubKeeps : Type 0
HubKeeps = (h : Hub) (session : ℕ) (a : State) → IsKept h (hub_made h session a).1.0

abbrev pub FrameLowers : Type 0
FrameLowers = (view : View) (leaves : List Leaf) (p p' : FramePiece) (a a' : State) (frame : ℕ) → next_of a ≡ next.Frame frame → FrameMade view p a p' a' → turns leaves a' < turns leaves a

abbrev pub LoadLowers : Type 0
LoadLowers = (leaves : List Leaf) (a : State) (frame seen : ℕ) → next_of a ≡ next.Load frame → turns leaves (loaded seen a) < turns leaves a

abbrev pub StoreLowers : Type 0
StoreLowers = (leaves : List Leaf) (a : State) (word value : ℕ) → next_of a ≡ next.Store word value → IsNoAnswer (stored a).0 → turns leaves (stored a).1 < turns leaves a

-- the call waits for a leaf
abbrev pub IsFill : Stage → Type 0
IsFill (stage.Fill call wanted) = Unit {0}
IsFill _ = ⊥

abbrev pub KeepOutLowers : Type 0
KeepOutLowers = (leaves : List Leaf) (a : State) (r : Refusal) → IsFill a.stage → turns leaves (kept_out r a) < turns leaves a

-- a leaf that comes into a frame, or is let go from one, changes no count
abbrev pub FramesKeep : Type 0
FramesKeep = (leaves : List Leaf) (id : ℕ) (frame : Option Framed) (a : State) → turns (changed id (in_frame frame) leaves) a ≡ turns leaves a
