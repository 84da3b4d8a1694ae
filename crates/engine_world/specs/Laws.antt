-- What each event of a session's call leaves of an engine that stands for a world.
use Rattle.std.specs.Prelude.{◌≡◌, ◌≢◌, ℕ, Some, slice_get, slice_set}
use Rattle.stamp.specs.declared.View.{View}
use Rattle.snapshot.specs.Sight.{sight_of}
use Rattle.txn_table.specs.Tabled.{session_of}
use Rattle.wt_calls.specs.declared.session_call.SessionCall.{SessionCall}
use Rattle.wt_code.specs.declared.refusals.Refusal.{Refusal}
use Rattle.wt_code.specs.declared.refusals.Refusal.TheVariants as refusal
use Rattle.wt_calls.specs.Calls.{session_call_in}
use Rattle.call_steps.specs.declared.frame.FramePiece.{FramePiece}
use Rattle.tree_dir.specs.declared.leaf.Framed.{Framed}
use Rattle.tree_dir.specs.declared.leaf.Leaf.{Leaf}
use Rattle.tree_dir.specs.Leaves.{leaf_named}
use Rattle.call_steps.specs.declared.hub.Hub.{Hub}
use Rattle.call_steps.specs.declared.next.Next.TheVariants as next
use Rattle.call_steps.specs.declared.reply.Reply.{Reply}
use Rattle.call_steps.specs.declared.reply.Reply.TheVariants as reply
use Rattle.call_steps.specs.declared.stage.KeyCall.{KeyCall}
use Rattle.call_steps.specs.declared.stage.KeyCall.TheVariants as key_call
use Rattle.call_steps.specs.declared.stage.Stage.{Stage}
use Rattle.call_steps.specs.declared.stage.Stage.TheVariants as stage
use Rattle.call_steps.specs.FrameEvents.{FrameMade}
use Rattle.call_steps.specs.HubEvents.{hub_made}
use Rattle.call_steps.specs.Starts.{Starts}
use Rattle.call_steps.specs.State.{State}
use Rattle.call_steps.specs.Words.{kept_out, next_of, loaded, stored}
use Rattle.engine_world.specs.Worlds.{World}
use Rattle.engine_world.specs.Leaves.{word_at}
use Rattle.engine_world.specs.Steps.{MayBegin, MayGo, MayKeepOut}
use Rattle.engine_world.specs.Stands.{Engine, Stands}

-- the engine with one session as it is now
abbrev pub with_session : Engine → ℕ → State → Engine
with_session e session a = record e { sessions = slice_set e.sessions session a }

abbrev pub with_hub : Engine → Hub → Engine
with_hub e hub = record e { hub = hub }

abbrev pub with_piece : Engine → ℕ → FramePiece → Engine
with_piece e frame p = record e { pieces = slice_set e.pieces frame p }

abbrev pub with_hazard : Engine → ℕ → ℕ → Engine
with_hazard e word value = record e { hazards = slice_set e.hazards word value }

-- the world goes on by a step that may reply so, and the engine stands for it
abbrev pub Leads : Engine → World → ℕ → Reply → Type 0
Leads e w session told = (after : World) × MayGo w session told after × Stands e after

-- the view is that of the session's transaction
pub record IsViewOf (hub : Hub) (session : ℕ) (view : View) : Type 0 where
  pub own : view.own ≡ (session_of hub.txns session).id
  pub read : view.read ≡ (session_of hub.txns session).read
  pub sight : sight_of view ≡ (session_of hub.txns session).sight

-- the session's call begins
abbrev pub StartsGo : Type 0
StartsGo = (e : Engine) (w : World) (session : ℕ) (a a' : State) (call : SessionCall) (told : Reply) → Stands e w → slice_get e.sessions session ≡ Some a → Starts call a told a'
    → (after : World) × MayBegin w session (session_call_in call) told after × Stands (with_session e session a') after

-- an event on the hub, at stages that pass
abbrev pub HubGoes : (Stage → Type 0) → Type 0
HubGoes At = (e : Engine) (w : World) (session : ℕ) (a : State) → Stands e w → slice_get e.sessions session ≡ Some a → At a.stage
    → let made = hub_made e.hub session a in Leads (with_session (with_hub e made.1.0) session made.1.1) w session made.0

-- an event on a frame
abbrev pub FrameGoes : (Stage → Type 0) → Type 0
FrameGoes At = (e : Engine) (w : World) (session frame : ℕ) (a a' : State) (p p' : FramePiece) (view : View) → Stands e w → slice_get e.sessions session ≡ Some a → At a.stage
    → next_of a ≡ next.Frame frame → slice_get e.pieces frame ≡ Some p → IsViewOf e.hub session view → FrameMade view p a p' a'
    → Leads (with_session (with_piece e frame p') session a') w session reply.More

-- an event on a word: a load of a state word, or a store of a hazard word
abbrev pub LoadGoes : Type 0
LoadGoes = (e : Engine) (w : World) (session frame : ℕ) (a : State) → Stands e w → slice_get e.sessions session ≡ Some a → next_of a ≡ next.Load frame
    → Leads (with_session e session (loaded (word_at e.states frame) a)) w session reply.More

abbrev pub StoreGoes : (Stage → Type 0) → Type 0
StoreGoes At = (e : Engine) (w : World) (session word value at : ℕ) (a : State) → Stands e w → slice_get e.sessions session ≡ Some a → At a.stage
    → next_of a ≡ next.Store word value → let made = stored a in Leads (with_session (with_hazard e at value) session made.1) w session made.0

-- ---- which stages they are

abbrev pub IsBegin : Stage → Type 0
IsBegin (stage.Begin read) = Unit {0}
IsBegin _ = ⊥

abbrev pub IsFind : Stage → Type 0
IsFind (stage.Find call) = Unit {0}
IsFind _ = ⊥

-- the leaf that the session waits for is in a frame
abbrev pub IsFilled : Hub → Stage → Type 0
IsFilled h (stage.Fill call wanted) = (l : Leaf) × (f : Framed) × (leaf_named wanted.leaf h.dir.leaves ≡ Some l) × (l.frame ≡ Some f)
IsFilled h _ = ⊥

abbrev pub IsPass : Stage → Type 0
IsPass (stage.Pass call target) = Unit {0}
IsPass _ = ⊥

abbrev pub IsHistory : Stage → Type 0
IsHistory (stage.History call target) = Unit {0}
IsHistory _ = ⊥

abbrev pub IsRelease : Stage → Type 0
IsRelease (stage.Release stamp) = Unit {0}
IsRelease _ = ⊥

abbrev pub IsDecide : Stage → Type 0
IsDecide (stage.Decide stamps) = Unit {0}
IsDecide _ = ⊥

abbrev pub IsResolve : Stage → Type 0
IsResolve stage.Resolve = Unit {0}
IsResolve _ = ⊥

abbrev pub IsDone : Stage → Type 0
IsDone stage.Done = Unit {0}
IsDone _ = ⊥

abbrev pub ReadsKey : KeyCall → Type 0
ReadsKey key_call.Get = Unit {0}
ReadsKey (key_call.Seek cursor) = Unit {0}
ReadsKey _ = ⊥

abbrev pub WritesKey : KeyCall → Type 0
WritesKey (key_call.Put demand) = Unit {0}
WritesKey key_call.Remove = Unit {0}
WritesKey _ = ⊥

abbrev pub StepsOn : KeyCall → Type 0
StepsOn (key_call.Step cursor way) = Unit {0}
StepsOn _ = ⊥

abbrev pub IsLook : (KeyCall → Type 0) → Stage → Type 0
IsLook Of (stage.Look call target) = Of call
IsLook Of _ = ⊥

abbrev pub IsMark : Stage → Type 0
IsMark (stage.Mark stamp left) = Unit {0}
IsMark _ = ⊥

abbrev pub IsOrder : Stage → Type 0
IsOrder (stage.Order stamps left) = Unit {0}
IsOrder _ = ⊥

abbrev pub IsStamp : Stage → Type 0
IsStamp (stage.Stamp stamps left) = Unit {0}
IsStamp _ = ⊥

abbrev pub IsUndo : Stage → Type 0
IsUndo (stage.Undo left) = Unit {0}
IsUndo _ = ⊥

abbrev pub IsPublish : Stage → Type 0
IsPublish (stage.Publish call target) = Unit {0}
IsPublish _ = ⊥

abbrev pub IsClearing : Stage → Type 0
IsClearing (stage.ClearCursor call target) = Unit {0}
IsClearing (stage.Clear call target) = Unit {0}
IsClearing _ = ⊥

abbrev pub IsReset : Stage → Type 0
IsReset (stage.Reset cursor) = Unit {0}
IsReset _ = ⊥

abbrev pub IsUnpin : Stage → Type 0
IsUnpin (stage.Unpin cursor) = Unit {0}
IsUnpin _ = ⊥

-- ---- one law for each

abbrev pub BeginsGo : Type 0
BeginsGo = HubGoes IsBegin

abbrev pub FindsGo : Type 0
FindsGo = HubGoes IsFind

abbrev pub FillsGo : Type 0
FillsGo = (e : Engine) (w : World) (session : ℕ) (a : State) → Stands e w → slice_get e.sessions session ≡ Some a → IsFilled e.hub a.stage
    → let made = hub_made e.hub session a in Leads (with_session (with_hub e made.1.0) session made.1.1) w session made.0

abbrev pub PassesGo : Type 0
PassesGo = HubGoes IsPass

abbrev pub HistoriesGo : Type 0
HistoriesGo = HubGoes IsHistory

abbrev pub ReleasesGo : Type 0
ReleasesGo = HubGoes IsRelease

abbrev pub DecidesGo : Type 0
DecidesGo = HubGoes IsDecide

abbrev pub ResolvesGo : Type 0
ResolvesGo = HubGoes IsResolve

abbrev pub EndsGo : Type 0
EndsGo = HubGoes IsDone

abbrev pub ReadsGo : Type 0
ReadsGo = FrameGoes (IsLook ReadsKey)

abbrev pub WritesGo : Type 0
WritesGo = FrameGoes (IsLook WritesKey)

abbrev pub RowsGo : Type 0
RowsGo = FrameGoes (IsLook StepsOn)

abbrev pub MarksGo : Type 0
MarksGo = FrameGoes IsMark

abbrev pub OrdersGo : Type 0
OrdersGo = FrameGoes IsOrder

abbrev pub StampsGo : Type 0
StampsGo = FrameGoes IsStamp

abbrev pub UndosGo : Type 0
UndosGo = FrameGoes IsUndo

abbrev pub PublishesGo : Type 0
PublishesGo = StoreGoes IsPublish

abbrev pub ClearsGo : Type 0
ClearsGo = StoreGoes IsClearing

abbrev pub ResetsGo : Type 0
ResetsGo = StoreGoes IsReset

abbrev pub UnpinsGo : Type 0
UnpinsGo = StoreGoes IsUnpin

-- ---- a leaf that cannot be had

abbrev pub IsWaiting : Stage → Type 0
IsWaiting (stage.Fill call wanted) = Unit {0}
IsWaiting _ = ⊥

-- the call that waits for it is refused so
abbrev pub KeepsOutGo : Type 0
KeepsOutGo = (e : Engine) (w : World) (session : ℕ) (a : State) (r : Refusal) → Stands e w → slice_get e.sessions session ≡ Some a → IsWaiting a.stage → r ≢ refusal.NotFound
    → (after : World) × MayKeepOut w session r after × Stands (with_session e session (kept_out r a)) after
