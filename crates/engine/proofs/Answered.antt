-- A step of a call answers it, or the call goes on.
use Rattle.std.proofs.Common.{◌≡◌, ◌⊎◌, ℕ, ap, List, inl, inr, Bool}
use Rattle.std.specs.Prelude.{Option, Some, None}
use Rattle.failure.specs.declared.Fault.{Fault}
use Rattle.wt_code.specs.declared.answers.Answer.{Answer}
use Rattle.wt_code.specs.declared.answers.Answer.TheVariants as answers
use Rattle.wt_code.specs.declared.refusals.Refusal.TheVariants as refusal
use Rattle.wt_code.specs.declared.refusals.Invalid.TheVariants.{NoCall}
use Rattle.item.specs.declared.Change.TheVariants.{Put as PutOf, Remove as RemoveOf}
use Rattle.kv_model.specs.Machine.{Machine, Transaction, transaction_of, Event, EndTransaction, Nothing, after}
use Rattle.kv_model.specs.Decisions.{Outcome, Done, Gives, GivesRow, Left, End, Resumes, Refused, BeginCall, PrepareCall, CommitCall, RollbackCall, FindKey, FindToWrite, FindRow, decision}
use Rattle.kv_model.specs.Rows.{reset_decision}
use Rattle.kv_model.specs.Calls.{Call, Begin, GetKey, PutKey, RemoveKey, SeekKey, NextRow, Reset, Prepare, Commit, Rollback, Create, Set, CkptStart, CkptStep, CkptFinish, Evict, Rts, Close}
use Rattle.call_steps.specs.declared.reply.Reply.TheVariants as reply
use Rattle.engine_world.specs.Worlds.{Doing, Resting, Asked, Placed, Decided, Ending}
use Rattle.engine_world.specs.Steps.{Made, GoesTo, EndsWith, Finishes, JudgedBy, FoundBy, EndsIn, SettledBy, Judges, LooksOn, TellsFault, EndsUnless, GoesOn}

-- the call is answered, or goes on
abbrev pub EndsOrGoes : Made → Type 0
EndsOrGoes made = ((answer : Answer (List ℕ)) × (made.told ≡ reply.Answer answer) × (made.doing ≡ Resting)) ⊎ (made.told ≡ reply.More)

ends : (answer : Answer (List ℕ)) (next : Machine) (left : ℕ) (made : Made) → EndsWith answer next made → EndsOrGoes made
ends answer next left made is = inl (answer, ap (λ (x : Made). x.told) is, ap (λ (x : Made). x.doing) is)

goes : (to : ℕ → Doing) (left : ℕ) (next : Machine) (made : Made) → GoesTo to left next made → EndsOrGoes made
goes to left next made is = inr (ap (λ (x : Made). x.told) is.2)

finishes : (answer : Answer (List ℕ)) (left : ℕ) (next : Machine) (made : Made) → Finishes answer left next made → EndsOrGoes made
finishes answer left next made (inl is) = ends answer next left made is
finishes answer left next made (inr is) = goes (Decided answer Nothing) left next made is

found : (o : Outcome) (event : Event) (m : Machine) (call : Call) (name : List ℕ) (left : ℕ) (made : Made) → FoundBy o event m call name left made → EndsOrGoes made
found (Refused r) event m call name left made is = ends (answers.Refused r) m left made is
found Done event m call name left made is = goes (Placed call is.0.number) left (after m event) made is.2
found (Gives v) event m call name left made is = absurd is
found (GivesRow k v) event m call name left made is = absurd is
found Left event m call name left made is = absurd is
found End event m call name left made is = absurd is
found Resumes event m call name left made is = absurd is

ends-in : (o : Option Transaction) (answer : Answer (List ℕ)) (m : Machine) (session left : ℕ) (made : Made) → EndsIn o answer m session left made → EndsOrGoes made
ends-in None answer m session left made is = finishes answer left m made is.1
ends-in (Some t) answer m session left made (inl is) = goes (Ending answer) left m made is
ends-in (Some t) answer m session left made (inr is) = finishes answer left (after m (EndTransaction session)) made is.2

settled : (o : Outcome) (event : Event) (m : Machine) (session left : ℕ) (made : Made) → SettledBy o event m session left made → EndsOrGoes made
settled o Nothing m session left made is = ends is.0 m left made is.2
settled o event m session left made is = ends-in (transaction_of (after m event) session) is.0 (after m event) session left made is.2

judged : (d : Outcome × Event) (m : Machine) (left : ℕ) (made : Made) → JudgedBy d m made → EndsOrGoes made
judged d m left made is = ends is.0 (after m d.1) left made is.2

judges : (call : Call) (m : Machine) (session left : ℕ) (made : Made) → Judges call m session left made → EndsOrGoes made
judges (Begin read) m session left made is = judged (decision m session (BeginCall read)) m left made is
judges (Prepare stamp) m session left made is = judged (decision m session (PrepareCall stamp)) m left made is
judges (Reset cursor) m session left made is = judged (reset_decision m session cursor) m left made is
judges (GetKey name key) m session left made is = let d = decision m session (FindKey name key) in found d.0 d.1 m (GetKey name key) name left made is
judges (PutKey name key value demand) m session left made is = let d = decision m session (FindToWrite name key (PutOf value)) in found d.0 d.1 m (PutKey name key value demand) name left made is
judges (RemoveKey name key) m session left made is = let d = decision m session (FindToWrite name key RemoveOf) in found d.0 d.1 m (RemoveKey name key) name left made is
judges (SeekKey cursor name key) m session left made is = let d = decision m session (FindKey name key) in found d.0 d.1 m (SeekKey cursor name key) name left made is
judges (NextRow cursor name way) m session left made is = let d = decision m session (FindRow name) in found d.0 d.1 m (NextRow cursor name way) name left made is
judges (Commit commit durable) m session left made is = let d = decision m session (CommitCall commit durable) in settled d.0 d.1 m session left made is
judges Rollback m session left made is = let d = decision m session RollbackCall in settled d.0 d.1 m session left made is
judges (Create name formats) m session left made is = absurd is
judges (Set oldest stable) m session left made is = absurd is
judges CkptStart m session left made is = absurd is
judges CkptStep m session left made is = absurd is
judges CkptFinish m session left made is = absurd is
judges (Evict name key) m session left made is = absurd is
judges Rts m session left made is = absurd is
judges Close m session left made is = absurd is

looks-on : (call : Call) (m : Machine) (answer : Answer (List ℕ)) (event : Event) (left : ℕ) (made : Made) → LooksOn call m answer event left made → EndsOrGoes made
looks-on (PutKey name key value demand) m answer event left made is = goes (Decided answer Nothing) left (after m event) made is
looks-on (RemoveKey name key) m answer event left made is = goes (Decided answer Nothing) left (after m event) made is
looks-on _ m answer event left made is = goes (Decided answer event) left m made is

tells-fault : (o : Option Fault) (left : ℕ) (m : Machine) (made : Made) → TellsFault o left m made → EndsOrGoes made
tells-fault None left m made is = absurd is
tells-fault (Some fault) left m made is = goes (Decided (answers.Refused (refusal.Panic fault)) Nothing) left m made is

ends-unless : (o : Option Fault) (answer : Answer (List ℕ)) (m : Machine) (session left : ℕ) (made : Made) → EndsUnless o answer m session left made → EndsOrGoes made
ends-unless None answer m session left made is = finishes answer left (after m (EndTransaction session)) made is
ends-unless (Some fault) answer m session left made is = ends (answers.Refused (refusal.Panic fault)) m left made is

pub ends-or-goes : (again : Bool) (d : Doing) (m : Machine) (session : ℕ) (made : Made) → GoesOn again d m session made → EndsOrGoes made
ends-or-goes again Resting m session made is = inl (answers.Refused (refusal.Invalid NoCall), ap (λ (x : Made). x.told) is, ap (λ (x : Made). x.doing) is)
ends-or-goes again (Asked call left) m session made (inl is) = goes (Asked call) left m made is
ends-or-goes again (Asked call left) m session made (inr is) = judges call m session left made is
ends-or-goes again (Placed call table left) m session made (inl is) = goes (Placed call table) left m made is
ends-or-goes again (Placed call table left) m session made (inr (inl is)) = looks-on call m is.answer is.event left made is.goes
ends-or-goes again (Placed call table left) m session made (inr (inr (inl is))) = goes (Decided (answers.Refused refusal.NoMemory) Nothing) left m made is
ends-or-goes again (Placed call table left) m session made (inr (inr (inr is))) = goes (Decided (answers.Refused (refusal.Again is.1.0)) Nothing) left m made is.1.1
ends-or-goes again (Decided answer event left) m session made (inl is) = goes (Decided answer event) left m made is
ends-or-goes again (Decided answer event left) m session made (inr (inl is)) = ends answer (after m event) left made is
ends-or-goes again (Decided answer event left) m session made (inr (inr is)) = tells-fault m.fault left m made is
ends-or-goes again (Ending answer left) m session made (inl is) = goes (Ending answer) left m made is
ends-or-goes again (Ending answer left) m session made (inr is) = ends-unless m.fault answer m session left made is
