-- What whole calls leave of a machine, by what each of their events leaves of it.
use Rattle.std.proofs.Common.{◌≡◌, ◌⊎◌, ◌∙◌, ℕ, false, List, Option, Some, None, refl, ap, sym, subst, inl, inr}
use Rattle.item.specs.declared.Change.TheVariants.{Put as PutOf, Remove as RemoveOf}
use Rattle.wt_code.specs.declared.answers.Answer.{Answer}
use Rattle.kv_model.specs.History.{Table}
use Rattle.kv_model.specs.Machine.{Machine, Transaction, Event, StartLeaving, CommitAt, Nothing, after, of_some, transaction_of}
use Rattle.kv_model.specs.Rows.{NextAnswer, SeekAnswer, reset_decision, row_event, seek_event}
use Rattle.kv_model.specs.Decisions.{Outcome, Done, Refused, Request, OpenCall, BeginCall, PrepareCall, CommitCall, RollbackCall, EndCall, FindKey, FindToWrite, FindRow, CreateCall, SetCall, Occupied, GetAnswer, WriteAnswer, decision, is_on_page, judged, while_up}
use Rattle.kv_model.specs.Calls.{Actor, Session, System, Call, Begin, GetKey, PutKey, RemoveKey, SeekKey, NextRow, Reset, Prepare, Commit, Rollback, Create, Set, CkptStart, CkptStep, CkptFinish, Evict, Rts, Close, ActorAnswers, AtPlace, Decided, HeldUp, IsHeldUp, IsKeptOut, IsShort, Judged, OpensSession, SessionAnswers, SystemAnswers, ended, settled}
use Rattle.engine_world.proofs.KeepingOut.{none_out}
use Rattle.engine_world.specs.Whole.{around_kept, nothing_around}
use Rattle.wt_code.specs.declared.refusals.Refusal.{Refusal}
use Rattle.wt_code.specs.declared.refusals.Refusal.TheVariants.{Panic}
use Rattle.failure.specs.declared.Fault.{Fault}
use Rattle.ckpt_step.proofs.Quiet.{IsMild, IsMildRequest, IsQuiet, Quiet, commit_mild, decision_quiet, is_quiet, reset_quiet, row_quiet, seek_quiet, write_quiet}

-- what holds of each machine and of what quiet events leave of it
pub record Kept (barred : Type 0) : Type 1 where
  pub To : Machine → Machine → Type 0
  pub same : (m : Machine) → To m m
  pub on : (m middle next : Machine) → To m middle → To middle next → To m next
  pub by : (m : Machine) (event : Event) → IsQuiet barred event → To m (after m event)

-- where a leaf was kept out, nobody took the machine down
abbrev pub IsSpared : Option Refusal → Machine → Machine → Type 0
IsSpared None m next = Unit {0}
IsSpared (Some r) m next = next.fault ≡ m.fault

pub spared_of : (kept : Option Refusal) (m next : Machine) → next.fault ≡ m.fault → IsSpared kept m next
spared_of None m next same = tt
spared_of (Some r) m next same = same

module _ (barred : Type 0) (k : Kept barred) where
  -- ---- calls that events decide

  pub made_goes : (m next : Machine) (d : Outcome × Event) (outcome : Outcome) (e : Event) → Quiet barred d → d ≡ (outcome, e) → next ≡ after m e → k.To m next
  made_goes m next d outcome e quiet is made = subst (λ (n : Machine). k.To m n) (sym made) (k.by m e (subst (λ (x : Event). IsQuiet barred x) (ap (λ (x : Outcome × Event). x.1) is) quiet))

  judged_goes : (m next : Machine) (session : ℕ) (request : Request) (outcome : Outcome) → IsMildRequest barred request → Judged m session request outcome next → k.To m next
  judged_goes m next session request outcome mild (e, is, made) = made_goes m next (decision m session request) outcome e (decision_quiet barred m session request mild) is made

  ended_goes : (m : Machine) (session : ℕ) (outcome : Outcome) → k.To m (ended m session outcome).1
  ended_goes m session outcome = by (transaction_of m session) where
    by : (o : Option Transaction) → k.To m (of_some {B = Outcome × Machine} (outcome, m) (λ t. let last = decision m session (EndCall outcome) in (last.0, after m last.1)) o).1
    by None = k.same m
    by (Some t) = k.by m (decision m session (EndCall outcome)).1 (decision_quiet barred m session (EndCall outcome) tt)

  then_ended : (m : Machine) (session : ℕ) (outcome : Outcome) (event : Event) → IsQuiet barred event → k.To m (ended (after m event) session outcome).1
  then_ended m session outcome event quiet = k.on m (after m event) (ended (after m event) session outcome).1 (k.by m event quiet) (ended_goes (after m event) session outcome)

  settled_goes : (m : Machine) (session : ℕ) (outcome : Outcome) (event : Event) → IsQuiet barred event → k.To m (settled m session outcome event).1
  settled_goes m session outcome (StartLeaving s) quiet = then_ended m session outcome (StartLeaving s) quiet
  settled_goes m session outcome (CommitAt s commit durable) quiet = then_ended m session outcome (CommitAt s commit durable) quiet
  settled_goes m session outcome event quiet = k.by m event quiet

  ends_goes : (m next : Machine) (session : ℕ) (request : Request) (outcome : Outcome) → IsMildRequest barred request → (settled m session (decision m session request).0 (decision m session request).1) ≡ (outcome, next) → k.To m next
  ends_goes m next session request outcome mild is = subst (λ (n : Machine). k.To m n) (ap (λ (x : Outcome × Machine). x.1) is)
      (settled_goes m session (decision m session request).0 (decision m session request).1 (decision_quiet barred m session request mild))

  -- ---- calls on a leaf

  place_goes : (m next : Machine) (session : ℕ) (name : List ℕ) (request : Request) (Looks : Machine → Transaction → Table → Outcome → Event → Type 0) (outcome : Outcome)
      → IsMildRequest barred request → ((n : Machine) (t : Transaction) (table : Table) (o : Outcome) (event : Event) → Looks n t table o event → IsQuiet barred event) → AtPlace m session name request Looks outcome next → k.To m next
  place_goes m next session name request Looks outcome mild looks (inl refused) = subst (λ (n : Machine). k.To m n) (sym refused.4) (k.same m)
  place_goes m next session name request Looks outcome mild looks (inr at) =
      let first = made_goes m (after m at.0) (decision m session request) Done at.0 (decision_quiet barred m session request mild) at.4 refl in
      subst (λ (n : Machine). k.To m n) (sym at.7)
      (k.on m (after m at.0) (after (after m at.0) at.3) first (k.by (after m at.0) at.3 (looks (after m at.0) at.1 at.2 outcome at.3 at.6)))

  decided_goes : (m next : Machine) (session : ℕ) (call : Call) (outcome : Outcome) → IsMild barred call → Decided m session call outcome next → k.To m next
  decided_goes m next session (Begin read) outcome mild d = judged_goes m next session (BeginCall read) outcome tt d
  decided_goes m next session (GetKey name key) outcome mild d =
      place_goes m next session name (FindKey name key) (λ n t table o event. GetAnswer n session t table.number key o × (event ≡ Nothing)) outcome tt (λ n t table o event looks. is_quiet barred event Nothing looks.1 tt) d
  decided_goes m next session (SeekKey cursor name key) outcome mild d =
      place_goes m next session name (FindKey name key) (λ n t table o event. SeekAnswer n session t cursor table.number key o event) outcome tt
      (λ n t table o event looks. is_quiet barred event (seek_event session cursor table.number key o) looks.1 (seek_quiet barred session cursor table.number key o)) d
  decided_goes m next session (NextRow cursor name way) outcome mild d =
      place_goes m next session name (FindRow name) (λ n t table o event. NextAnswer n session t cursor table.number way o event) outcome tt
      (λ n t table o event looks. is_quiet barred event (row_event session cursor table.number o) looks.1 (row_quiet barred session cursor table.number o)) d
  decided_goes m next session (PutKey name key value demand) outcome mild d =
      place_goes m next session name (FindToWrite name key (PutOf value)) (λ n t table o event. WriteAnswer n session t table.number key (PutOf value) demand o event) outcome tt
      (λ n t table o event looks. write_quiet barred n session t table.number key (PutOf value) demand o event looks) d
  decided_goes m next session (RemoveKey name key) outcome mild d =
      place_goes m next session name (FindToWrite name key RemoveOf) (λ n t table o event. WriteAnswer n session t table.number key RemoveOf Occupied o event) outcome tt
      (λ n t table o event looks. write_quiet barred n session t table.number key RemoveOf Occupied o event looks) d
  decided_goes m next session (Reset cursor) outcome mild (e, is, made) = made_goes m next (reset_decision m session cursor) outcome e (reset_quiet barred m session cursor) is made
  decided_goes m next session (Prepare stamp) outcome mild d = judged_goes m next session (PrepareCall stamp) outcome tt d
  decided_goes m next session (Commit commit durable) outcome mild d = ends_goes m next session (CommitCall commit durable) outcome (commit_mild barred commit durable mild) d
  decided_goes m next session Rollback outcome mild d = ends_goes m next session RollbackCall outcome tt d
  decided_goes m next session _ outcome mild d = absurd d

  -- ---- calls that memory keeps from their work

  short_goes : (m next : Machine) (answer : Answer (List ℕ)) → IsShort m answer next → k.To m next
  short_goes m next answer short = subst (λ (n : Machine). k.To m n) (sym short.1) (k.same m)

  -- the leaf was kept out, and nobody took the machine down
  out_goes : (kept : Option Refusal) (m middle next : Machine) (answer : Answer (List ℕ)) → m.fault ≡ None → IsSpared kept m next → k.To m middle → IsKeptOut (around_kept kept) middle answer next → k.To m next
  out_goes None m middle next answer up spared first (r, may, is, how) = absurd (none_out r may)
  out_goes (Some s) m middle next answer up spared first (r, may, is, inl same) = subst (λ (n : Machine). k.To m n) (sym same) first
  out_goes (Some s) m middle next answer up spared first (r, may, is, inr (disk, (fault, down))) =
      let gone : Some fault ≡ None = sym (ap (λ (n : Machine). n.fault) down) ∙ (spared ∙ up) in absurd cc

  -- a decision that is done comes of a machine that is up
  up_of : (m : Machine) (session : ℕ) (request : Request) (e : Event) → is_on_page m session request ≡ false → decision m session request ≡ (Done, e) → m.fault ≡ None
  up_of m session request e off is = by m.fault refl (sym (let direct : decision m session request ≡ while_up m (judged m session request) = rw off refl in direct) ∙ is) where
    by : (o : Option Fault) → m.fault ≡ o → while_up m (judged m session request) ≡ (Done, e) → m.fault ≡ None
    by None same done = same
    by (Some fault) same done = absurd (let two : Refused (Panic fault) ≡ Done = ap (λ (x : Outcome × Event). x.0) (rw same at done) in cc)

  held_goes : (kept : Option Refusal) (m next : Machine) (session : ℕ) (request : Request) (answer : Answer (List ℕ)) → IsMildRequest barred request → is_on_page m session request ≡ false → IsSpared kept m next → IsHeldUp (around_kept kept) m session request answer next → k.To m next
  held_goes kept m next session request answer mild off spared (inl short) = short_goes m next answer short
  held_goes kept m next session request answer mild off spared (inr (e, is, how)) = by how where
    first : k.To m (after m e)
    first = made_goes m (after m e) (decision m session request) Done e (decision_quiet barred m session request mild) is refl

    by : IsShort (after m e) answer next ⊎ IsKeptOut (around_kept kept) (after m e) answer next → k.To m next
    by (inl short) = k.on m (after m e) next first (short_goes (after m e) next answer short)
    by (inr out) = out_goes kept m (after m e) next answer (up_of m session request e off is) spared first out

  kept_goes : (kept : Option Refusal) (m next : Machine) (session : ℕ) (call : Call) (answer : Answer (List ℕ)) → IsSpared kept m next → HeldUp (around_kept kept) m session call answer next → k.To m next
  kept_goes kept m next session (GetKey name key) answer spared h = held_goes kept m next session (FindKey name key) answer tt refl spared h
  kept_goes kept m next session (SeekKey cursor name key) answer spared h = held_goes kept m next session (FindKey name key) answer tt refl spared h
  kept_goes kept m next session (NextRow cursor name way) answer spared h = held_goes kept m next session (FindRow name) answer tt refl spared h
  kept_goes kept m next session (PutKey name key value demand) answer spared h = held_goes kept m next session (FindToWrite name key (PutOf value)) answer tt refl spared h
  kept_goes kept m next session (RemoveKey name key) answer spared h = held_goes kept m next session (FindToWrite name key RemoveOf) answer tt refl spared h
  kept_goes kept m next session _ answer spared h = absurd h

  -- ---- any call

  -- a session's, whose leaf may have been kept from it
  pub spared_goes : (kept : Option Refusal) (m next : Machine) (session : ℕ) (call : Call) (answer : Answer (List ℕ)) → IsMild barred call → IsSpared kept m next → SessionAnswers (around_kept kept) m session call answer next → k.To m next
  spared_goes kept m next session call answer mild spared (inl (outcome, d, tells)) = decided_goes m next session call outcome mild d
  spared_goes kept m next session call answer mild spared (inr h) = kept_goes kept m next session call answer spared h

  pub session_goes : (m next : Machine) (session : ℕ) (call : Call) (answer : Answer (List ℕ)) → IsMild barred call → SessionAnswers nothing_around m session call answer next → k.To m next
  session_goes m next session call answer mild is = spared_goes None m next session call answer mild tt is

  pub system_goes : (m next : Machine) (call : Call) (answer : Answer (List ℕ)) → IsMild barred call → SystemAnswers nothing_around m call answer next → k.To m next
  system_goes m next (Create name formats) answer mild (inl short) = short_goes m next answer short
  system_goes m next (Create name formats) answer mild (inr (table, is, (outcome, d, tells))) = judged_goes m next 0 (CreateCall table) outcome tt d
  system_goes m next (Evict name key) answer mild (inl short) = short_goes m next answer short
  system_goes m next (Evict name key) answer mild (inr (inl out)) = absurd (none_out out.0 out.1)
  system_goes m next (Evict name key) answer mild (inr (inr evicts)) = subst (λ (n : Machine). k.To m n) (sym evicts.3) (k.same m)
  system_goes m next (Set oldest stable) answer mild (outcome, d, tells) = judged_goes m next 0 (SetCall oldest stable) outcome tt d
  system_goes m next Rts answer mild s = absurd mild
  system_goes m next CkptStart answer mild s = absurd mild
  system_goes m next CkptStep answer mild s = absurd mild
  system_goes m next CkptFinish answer mild s = absurd mild
  system_goes m next Close answer mild s = absurd mild
  system_goes m next _ answer mild s = absurd s

  pub actor_goes : (m next : Machine) (actor : Actor) (call : Call) (answer : Answer (List ℕ)) → IsMild barred call → ActorAnswers nothing_around m actor call answer next → k.To m next
  actor_goes m next (Session session) call answer mild is = session_goes m next session call answer mild is
  actor_goes m next (System number) call answer mild is = system_goes m next call answer mild is

  -- a session more
  pub opening_goes : (m next : Machine) (answer : Answer (List ℕ)) → OpensSession m answer next → k.To m next
  opening_goes m next answer (inl short) = short_goes m next answer short
  opening_goes m next answer (inr (outcome, d, tells)) = judged_goes m next 0 OpenCall outcome tt d
