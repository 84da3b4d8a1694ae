-- What a checkpoint in one go asks of an engine.
use Rattle.std.specs.Prelude.{◌≡◌, ◌≤◌, ℕ, List, [], Result, Ok, Err}
use Rattle.wt_code.specs.declared.refusals.Refusal.{Refusal}
use Rattle.wt_code.specs.declared.refusals.Refusal.TheVariants.{Panic, Busy as Refusal_Busy, Limit as Refusal_Limit}
use Rattle.wt_code.specs.declared.refusals.Limit.TheVariants.{Checkpoints}
use Rattle.wt_code.specs.declared.refusals.Busy.TheVariants.{Resolving}
use Rattle.kv_model.specs.Allowed.{StampsFit}
use Rattle.kv_model.specs.Decisions.{Outcome, Done, Refused, StartCall, decision}
use Rattle.kv_model.specs.History.{Table}
use Rattle.kv_model.specs.Machine.{Machine, Event, CheckpointStart, Nothing}
use Rattle.update_chain.specs.EventLaws.{StandsFor}
use Rattle.reconcile.specs.Shows.{shown_at}
use Rattle.leaf_frame.specs.Leaf.{HeldLeaf}
use Rattle.leaf_chains.specs.Slots.{chain_at}
use Rattle.call_steps.specs.declared.hub.Hub.{Hub}
use Rattle.engine.specs.declared.checkpoint.EngineMarks.{EngineMarks}

-- what the machine decides of a checkpoint that would start, where it is answered so
abbrev pub started_as : Result (Unit {0}) Refusal → Outcome × Event
started_as (Ok done) = (Done, CheckpointStart)
started_as (Err refusal) = (Refused refusal, Nothing)

-- the answer is the machine's; number: that of the last completed checkpoint, 0 where there is none
abbrev pub MayStart : Machine → ℕ → Result (Unit {0}) Refusal → Type 0
MayStart m number answer = decision m 0 (StartCall number) ≡ started_as answer

-- one of the refusals of a start
abbrev pub IsOfStart : Refusal → Type 0
IsOfStart (Panic fault) = Unit {0}
IsOfStart (Refusal_Busy (Resolving session)) = Unit {0}
IsOfStart (Refusal_Limit Checkpoints) = Unit {0}
IsOfStart _ = ⊥

abbrev pub marks_of : Machine → EngineMarks
marks_of m = record { run = m.run; next = m.next; oldest = m.oldest; stable = m.stable }

-- the same of what the sessions share
abbrev pub marks_in : Hub → EngineMarks
marks_in h = record { run = h.txns.run; next = h.txns.next; oldest = h.stamps.oldest; stable = h.stamps.stable }

-- runs begin at 1, and oldest is at most stable where both are set
pub record MarksFit (marks : EngineMarks) : Type 0 where
  pub run : 1 ≤ marks.run
  pub stamps : StampsFit marks.oldest marks.stable

-- the chains over the rows stand for the keys of the table, with nothing in the history beside them
abbrev pub HeldStands : Machine → Table → HeldLeaf → Type 0
HeldStands m t leaf = (key : List ℕ) → StandsFor m t.number key (chain_at key leaf.chains) (shown_at key leaf.page) []
