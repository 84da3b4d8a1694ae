-- The places of the sessions in the table of transactions: each event of a call keeps them.
use Rattle.std.specs.Prelude.{◌≡◌, ℕ, List, Some, slice_get, slice_set}
use Rattle.stamp.specs.declared.View.{View}
use Rattle.wt_code.specs.declared.refusals.Refusal.{Refusal}
use Rattle.wt_calls.specs.declared.SessionCall.{SessionCall}
use Rattle.txn_table.specs.declared.phase.Phase.TheVariants as phase
use Rattle.call_steps.specs.declared.frame.FramePiece.{FramePiece}
use Rattle.call_steps.specs.declared.hub.Hub.{Hub}
use Rattle.call_steps.specs.declared.reply.Reply.{Reply}
use Rattle.call_steps.specs.declared.stage.Stage.{Stage}
use Rattle.call_steps.specs.declared.stage.Stage.TheVariants as stage
use Rattle.call_steps.specs.FrameEvents.{FrameMade}
use Rattle.call_steps.specs.HubEvents.{IsSeated, hub_made}
use Rattle.call_steps.specs.Starts.{Starts}
use Rattle.call_steps.specs.State.{State}
use Rattle.call_steps.specs.Words.{kept_out, loaded, stored}

-- each session has a place, which knows its phase
abbrev pub AreSeated : Hub → List State → Type 0
AreSeated hub sessions = (session : ℕ) (a : State) → slice_get sessions session ≡ Some a → IsSeated hub session a

-- the call has found a leaf of its table, and goes on there
abbrev pub IsAtLeaf : Stage → Type 0
IsAtLeaf (stage.Fill call wanted) = Unit {0}
IsAtLeaf (stage.Publish call target) = Unit {0}
IsAtLeaf (stage.Validate call target) = Unit {0}
IsAtLeaf (stage.Look call target) = Unit {0}
IsAtLeaf (stage.Pass call target) = Unit {0}
IsAtLeaf _ = ⊥

-- a transaction runs where its call is at a leaf
pub record RunsAtLeaf (a : State) : Type 0 where
  pub runs : IsAtLeaf a.stage → a.phase ≡ phase.Running

-- so it is with each session
abbrev pub AllRun : List State → Type 0
AllRun sessions = (session : ℕ) (a : State) → slice_get sessions session ≡ Some a → RunsAtLeaf a

-- ---- the places stay

abbrev pub HubSeats : Type 0
HubSeats = (h : Hub) (session : ℕ) (a : State) (sessions : List State) → AreSeated h sessions → slice_get sessions session ≡ Some a
    → AreSeated (hub_made h session a).1.0 (slice_set sessions session (hub_made h session a).1.1)

-- a conflict fails a transaction that runs
abbrev pub FrameSeats : Type 0
FrameSeats = (h : Hub) (session : ℕ) (view : View) (p p' : FramePiece) (a a' : State) (sessions : List State) → AreSeated h sessions → AllRun sessions → slice_get sessions session ≡ Some a → FrameMade view p a p' a'
    → AreSeated h (slice_set sessions session a')

abbrev pub LoadSeats : Type 0
LoadSeats = (h : Hub) (session seen : ℕ) (a : State) (sessions : List State) → AreSeated h sessions → slice_get sessions session ≡ Some a → AreSeated h (slice_set sessions session (loaded seen a))

abbrev pub StoreSeats : Type 0
StoreSeats = (h : Hub) (session : ℕ) (a : State) (sessions : List State) → AreSeated h sessions → slice_get sessions session ≡ Some a → AreSeated h (slice_set sessions session (stored a).1)

abbrev pub KeepOutSeats : Type 0
KeepOutSeats = (h : Hub) (session : ℕ) (a : State) (r : Refusal) (sessions : List State) → AreSeated h sessions → slice_get sessions session ≡ Some a → AreSeated h (slice_set sessions session (kept_out r a))

abbrev pub StartSeats : Type 0
StartSeats = (h : Hub) (session : ℕ) (call : SessionCall) (a a' : State) (told : Reply) (sessions : List State) → AreSeated h sessions → slice_get sessions session ≡ Some a → Starts call a told a'
    → AreSeated h (slice_set sessions session a')

-- ---- a transaction runs where its call is at a leaf

abbrev pub HubRuns : Type 0
HubRuns = (h : Hub) (session : ℕ) (a : State) (sessions : List State) → AllRun sessions → slice_get sessions session ≡ Some a → AllRun (slice_set sessions session (hub_made h session a).1.1)

abbrev pub FrameRuns : Type 0
FrameRuns = (session : ℕ) (view : View) (p p' : FramePiece) (a a' : State) (sessions : List State) → AllRun sessions → slice_get sessions session ≡ Some a → FrameMade view p a p' a' → AllRun (slice_set sessions session a')

abbrev pub LoadRuns : Type 0
LoadRuns = (session seen : ℕ) (a : State) (sessions : List State) → AllRun sessions → slice_get sessions session ≡ Some a → AllRun (slice_set sessions session (loaded seen a))

abbrev pub StoreRuns : Type 0
StoreRuns = (session : ℕ) (a : State) (sessions : List State) → AllRun sessions → slice_get sessions session ≡ Some a → AllRun (slice_set sessions session (stored a).1)

abbrev pub KeepOutRuns : Type 0
KeepOutRuns = (session : ℕ) (a : State) (r : Refusal) (sessions : List State) → AllRun sessions → slice_get sessions session ≡ Some a → AllRun (slice_set sessions session (kept_out r a))

abbrev pub StartRuns : Type 0
StartRuns = (session : ℕ) (call : SessionCall) (a a' : State) (told : Reply) (sessions : List State) → AllRun sessions → slice_get sessions session ≡ Some a → Starts call a told a' → AllRun (slice_set sessions session a')
