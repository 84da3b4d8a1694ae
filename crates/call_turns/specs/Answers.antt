-- Which refusals the events of a session's call tell by themselves: none that only a device gives, whatever it brought.
use Rattle.std.specs.Prelude.{◌≡◌, ℕ, List}
use Rattle.stamp.specs.declared.View.{View}
use Rattle.wt_code.specs.declared.answers.Answer.{Answer}
use Rattle.wt_code.specs.declared.answers.Answer.TheVariants as answer
use Rattle.wt_code.specs.declared.refusals.Refusal.{Refusal}
use Rattle.wt_code.specs.declared.refusals.Refusal.TheVariants as refusal
use Rattle.wt_calls.specs.declared.SessionCall.{SessionCall}
use Rattle.call_steps.specs.declared.frame.FramePiece.{FramePiece}
use Rattle.call_steps.specs.declared.hub.Hub.{Hub}
use Rattle.call_steps.specs.declared.reply.Reply.{Reply}
use Rattle.call_steps.specs.declared.reply.Reply.TheVariants as reply
use Rattle.call_steps.specs.FrameEvents.{FrameMade}
use Rattle.call_steps.specs.HubEvents.{hub_made}
use Rattle.call_steps.specs.Starts.{Starts}
use Rattle.call_steps.specs.State.{State}
use Rattle.call_steps.specs.Words.{kept_out, loaded, stored}

-- One that is kept from before, or none that only a device gives: a call of the disk that fails, a block that is damaged, and want of room for one. That an earlier call failed is the hub's to say.
abbrev pub IsOwn : Refusal → Refusal → Type 0
IsOwn but refusal.DiskFault = but ≡ refusal.DiskFault
IsOwn but (refusal.Corrupt offset want found) = but ≡ refusal.Corrupt offset want found
IsOwn but refusal.NoSpace = but ≡ refusal.NoSpace
IsOwn but _ = Unit {0}

-- where it refuses, it is by one of these
abbrev pub IsOwnAnswer : Refusal → Answer (List ℕ) → Type 0
IsOwnAnswer but (answer.Refused r) = IsOwn but r
IsOwnAnswer but _ = Unit {0}

-- so is the answer that the session keeps until its call ends
abbrev pub HoldsOwn : Refusal → State → Type 0
HoldsOwn but a = IsOwnAnswer but a.answer

-- so is the answer that is told, where one is
abbrev pub TellsOwn : Refusal → Reply → Type 0
TellsOwn but (reply.Answer told) = IsOwnAnswer but told
TellsOwn but _ = Unit {0}

-- ---- events: whichever refusal was kept from before

abbrev pub HubTells : Type 0
HubTells = (but : Refusal) (h : Hub) (session : ℕ) (a : State) → HoldsOwn but a → TellsOwn but (hub_made h session a).0 × HoldsOwn but (hub_made h session a).1.1

-- an event on a frame tells nothing
abbrev pub FrameTells : Type 0
FrameTells = (but : Refusal) (view : View) (p p' : FramePiece) (a a' : State) → FrameMade view p a p' a' → HoldsOwn but a → HoldsOwn but a'

-- nor does a load
abbrev pub LoadTells : Type 0
LoadTells = (but : Refusal) (seen : ℕ) (a : State) → HoldsOwn but a → HoldsOwn but (loaded seen a)

abbrev pub StoreTells : Type 0
StoreTells = (but : Refusal) (a : State) → HoldsOwn but a → TellsOwn but (stored a).0 × HoldsOwn but (stored a).1

abbrev pub StartTells : Type 0
StartTells = (but : Refusal) (call : SessionCall) (a a' : State) (told : Reply) → Starts call a told a' → HoldsOwn but a → TellsOwn but told × HoldsOwn but a'

-- a call whose leaf cannot be had is refused as its caller says
abbrev pub KeptTells : Type 0
KeptTells = (but : Refusal) (a : State) (r : Refusal) → IsOwn but r → HoldsOwn but a → HoldsOwn but (kept_out r a)
