-- What steps of actors leave of a machine, with the calls that are under way.
use Rattle.std.proofs.Common.{◌≡◌, ◌++◌, ℕ, Bool, zero, suc, List, [], ◌∷◌, Option, Some, None, get_or, set, sym, subst, inl, inr}
use Rattle.std.specs.Prelude.{MatchOption, slice_index_or, slice_set}
use Rattle.failure.specs.declared.Fault.{Fault}
use Rattle.item.specs.declared.Change.TheVariants.{Put as PutOf, Remove as RemoveOf}
use Rattle.wt_code.specs.declared.answers.Answer.{Answer}
use Rattle.wt_code.specs.declared.answers.Answer.TheVariants as answers
use Rattle.wt_code.specs.declared.refusals.Refusal.{Refusal}
use Rattle.wt_code.specs.declared.refusals.Refusal.TheVariants.{Again, NoMemory, Panic}
use Rattle.kv_model.specs.Machine.{Machine, Transaction, Event, EndTransaction, Nothing, OpenSession, after, transaction_of}
use Rattle.kv_model.specs.Decisions.{Outcome, Done, Refused, Request, BeginCall, PrepareCall, CommitCall, RollbackCall, FindKey, FindToWrite, FindRow, Occupied, decision}
use Rattle.kv_model.specs.Rows.{reset_decision, row_event, seek_event}
use Rattle.kv_model.specs.Calls.{Call, Begin, GetKey, PutKey, RemoveKey, SeekKey, NextRow, Reset, Prepare, Commit, Rollback}
use Rattle.wt_calls.specs.declared.call.Call.{Call as AnyCall}
use Rattle.wt_calls.specs.declared.call.Call.TheVariants as call
use Rattle.wt_calls.specs.Calls.{session_call_in, system_call_in}
use Rattle.call_steps.specs.declared.reply.Reply.{Reply as Told}
use Rattle.engine_world.specs.Steps.{BeginsIn, EndsIn, EndsUnless, EndsWith, Finds, Finishes, FoundBy, GoesOn, GoesTo, IsKeptOut, JudgedBy, Judges, LookAnswer, LooksOn, Made, MayKeepOut, SettledBy, Settles, TellsFault}
use Rattle.engine_world.specs.Worlds.{Doing, Resting, Asked, Placed, Decided, Ending, World, doing_of}
use Rattle.engine.specs.declared.step.Actor.TheVariants as by
use Rattle.engine.specs.declared.step.Step.{Step}
use Rattle.engine.specs.declared.step.Step.TheVariants.{Start, Go}
use Rattle.engine.specs.Runs.{AsksIn, MakesIn, MayStep}
use Rattle.engine.specs.Whole.{CallsIn, CallsKept, KeptBy, MakesAt, MayAnswer, MayCallKept, with_session_more}
use Rattle.ckpt_step.proofs.Quiet.{IsMild, IsMildRequest, IsQuiet, Quiet, commit_mild, decision_quiet, is_quiet, reset_quiet, row_quiet, seek_quiet, write_quiet}
use Rattle.ckpt_step.proofs.WholeCalls.{Kept, session_goes, spared_goes, spared_of, system_goes}

-- one more, or another one, among those that are each so
each_set : {A : Type 0} (P : A → Type 0) (xs : List A) (i : ℕ) (v d : A) → ((k : ℕ) → P (get_or xs k d)) → P v → (k : ℕ) → P (get_or (set xs i v) k d)
each_set P [] i v d each there k = each k
each_set P (x ∷ xs) zero v d each there zero = there
each_set P (x ∷ xs) zero v d each there (suc k) = each (suc k)
each_set P (x ∷ xs) (suc i) v d each there zero = each zero
each_set P (x ∷ xs) (suc i) v d each there (suc k) = each_set P xs i v d (λ n. each (suc n)) there k

each_more : {A : Type 0} (P : A → Type 0) (xs : List A) (v d : A) → ((k : ℕ) → P (get_or xs k d)) → P v → (k : ℕ) → P (get_or (xs ++ v ∷ []) k d)
each_more P [] v d each there zero = there
each_more P [] v d each there (suc k) = each (suc k)
each_more P (x ∷ xs) v d each there zero = each zero
each_more P (x ∷ xs) v d each there (suc k) = each_more P xs v d (λ n. each (suc n)) there k

module _ (barred : Type 0) where
  abbrev pub IsMildDoing : Doing → Type 0
  IsMildDoing Resting = Unit {0}
  IsMildDoing (Asked made left) = IsMild barred made
  IsMildDoing (Placed made table left) = IsMild barred made
  IsMildDoing (Decided answer event left) = IsQuiet barred event
  IsMildDoing (Ending answer left) = Unit {0}

  abbrev pub IsMildIn : Option Call → Type 0
  IsMildIn o = MatchOption o (Unit {0}) (λ c. IsMild barred c)

  -- so is each call that is under way
  pub record IsMildWorld (w : World) : Type 0 where
    pub sessions : (session : ℕ) → IsMildDoing (doing_of w session)
    pub systems : (number : ℕ) → IsMildIn (slice_index_or w.systems number None)

  abbrev pub IsMildAny : AnyCall → Type 0
  IsMildAny (call.Session session made) = IsMild barred (session_call_in made)
  IsMildAny (call.System number made) = IsMild barred (system_call_in made)

  abbrev pub IsMildStep : Step → Type 0
  IsMildStep (Start made) = IsMildAny made
  IsMildStep (Go who) = Unit {0}

module _ (barred : Type 0) (k : Kept barred) where
  -- ---- steps of a session's call

  record MadeMild (m : Machine) (made : Made) : Type 0 where
    to : k.To m made.machine
    mild : IsMildDoing barred made.doing

  goes_to : (to : ℕ → Doing) (left : ℕ) (next m : Machine) (made : Made) → k.To m next → ((n : ℕ) → IsMildDoing barred (to n)) → GoesTo to left next made → MadeMild m made
  goes_to to left next m made so each (fewer, less, is) = subst (λ (x : Made). MadeMild m x) (sym is) (record { to = so; mild = each fewer })

  ends_with : (answer : Answer (List ℕ)) (next m : Machine) (made : Made) → k.To m next → EndsWith answer next made → MadeMild m made
  ends_with answer next m made so is = subst (λ (x : Made). MadeMild m x) (sym is) (record { to = so; mild = tt })

  finishes : (answer : Answer (List ℕ)) (left : ℕ) (next m : Machine) (made : Made) → k.To m next → Finishes answer left next made → MadeMild m made
  finishes answer left next m made so (inl ends) = ends_with answer next m made so ends
  finishes answer left next m made so (inr goes) = goes_to (Decided answer Nothing) left next m made so (λ n. tt) goes

  found_by : (outcome : Outcome) (event : Event) (m : Machine) (made : Call) (name : List ℕ) (left : ℕ) (x : Made) → IsQuiet barred event → IsMild barred made → FoundBy outcome event m made name left x → MadeMild m x
  found_by (Refused r) event m made name left x quiet mild ends = ends_with (answers.Refused r) m m x (k.same m) ends
  found_by Done event m made name left x quiet mild (table, is, goes) = goes_to (Placed made table.number) left (after m event) m x (k.by m event quiet) (λ n. mild) goes
  found_by _ event m made name left x quiet mild there = absurd there

  finds : (m : Machine) (session : ℕ) (request : Request) (made : Call) (name : List ℕ) (left : ℕ) (x : Made) → IsMildRequest barred request → IsMild barred made → Finds m session request made name left x → MadeMild m x
  finds m session request made name left x asked mild found = found_by (decision m session request).0 (decision m session request).1 m made name left x (decision_quiet barred m session request asked) mild found

  ends_in : (o : Option Transaction) (answer : Answer (List ℕ)) (next m : Machine) (session left : ℕ) (x : Made) → k.To m next → EndsIn o answer next session left x → MadeMild m x
  ends_in None answer next m session left x so (up, is) = finishes answer left next m x so is
  ends_in (Some t) answer next m session left x so (inl goes) = goes_to (Ending answer) left next m x so (λ n. tt) goes
  ends_in (Some t) answer next m session left x so (inr (up, none, is)) =
      finishes answer left (after next (EndTransaction session)) m x (k.on m next (after next (EndTransaction session)) so (k.by next (EndTransaction session) tt)) is

  settled_by : (outcome : Outcome) (event : Event) (m : Machine) (session left : ℕ) (x : Made) → IsQuiet barred event → SettledBy outcome event m session left x → MadeMild m x
  settled_by outcome Nothing m session left x quiet (answer, tells, ends) = ends_with answer m m x (k.same m) ends
  settled_by outcome event m session left x quiet (answer, tells, ends) = ends_in (transaction_of (after m event) session) answer (after m event) m session left x (k.by m event quiet) ends

  settles : (m : Machine) (session : ℕ) (request : Request) (left : ℕ) (x : Made) → IsMildRequest barred request → Settles m session request left x → MadeMild m x
  settles m session request left x asked is = settled_by (decision m session request).0 (decision m session request).1 m session left x (decision_quiet barred m session request asked) is

  judged_by : (d : Outcome × Event) (m : Machine) (x : Made) → Quiet barred d → JudgedBy d m x → MadeMild m x
  judged_by d m x quiet (answer, tells, ends) = ends_with answer (after m d.1) m x (k.by m d.1 quiet) ends

  judges : (made : Call) (m : Machine) (session left : ℕ) (x : Made) → IsMild barred made → Judges made m session left x → MadeMild m x
  judges (Begin read) m session left x mild j = judged_by (decision m session (BeginCall read)) m x (decision_quiet barred m session (BeginCall read) tt) j
  judges (GetKey name key) m session left x mild j = finds m session (FindKey name key) (GetKey name key) name left x tt mild j
  judges (PutKey name key value demand) m session left x mild j = finds m session (FindToWrite name key (PutOf value)) (PutKey name key value demand) name left x tt mild j
  judges (RemoveKey name key) m session left x mild j = finds m session (FindToWrite name key RemoveOf) (RemoveKey name key) name left x tt mild j
  judges (SeekKey cursor name key) m session left x mild j = finds m session (FindKey name key) (SeekKey cursor name key) name left x tt mild j
  judges (NextRow cursor name way) m session left x mild j = finds m session (FindRow name) (NextRow cursor name way) name left x tt mild j
  judges (Reset cursor) m session left x mild j = judged_by (reset_decision m session cursor) m x (reset_quiet barred m session cursor) j
  judges (Prepare stamp) m session left x mild j = judged_by (decision m session (PrepareCall stamp)) m x (decision_quiet barred m session (PrepareCall stamp) tt) j
  judges (Commit commit durable) m session left x mild j = settles m session (CommitCall commit durable) left x (commit_mild barred commit durable mild) j
  judges Rollback m session left x mild j = settles m session RollbackCall left x tt j
  judges _ m session left x mild j = absurd j

  look_quiet : (made : Call) (m : Machine) (session : ℕ) (t : Transaction) (table : ℕ) (outcome : Outcome) (event : Event) → LookAnswer made m session t table outcome event → IsQuiet barred event
  look_quiet (GetKey name key) m session t table outcome event looks = is_quiet barred event Nothing looks.1 tt
  look_quiet (PutKey name key value demand) m session t table outcome event looks = write_quiet barred m session t table key (PutOf value) demand outcome event looks
  look_quiet (RemoveKey name key) m session t table outcome event looks = write_quiet barred m session t table key RemoveOf Occupied outcome event looks
  look_quiet (SeekKey cursor name key) m session t table outcome event looks = is_quiet barred event (seek_event session cursor table key outcome) looks.1 (seek_quiet barred session cursor table key outcome)
  look_quiet (NextRow cursor name way) m session t table outcome event looks = is_quiet barred event (row_event session cursor table outcome) looks.1 (row_quiet barred session cursor table outcome)
  look_quiet _ m session t table outcome event looks = absurd looks

  looks_on : (made : Call) (m : Machine) (answer : Answer (List ℕ)) (event : Event) (left : ℕ) (x : Made) → IsQuiet barred event → LooksOn made m answer event left x → MadeMild m x
  looks_on (PutKey name key value demand) m answer event left x quiet goes = goes_to (Decided answer Nothing) left (after m event) m x (k.by m event quiet) (λ n. tt) goes
  looks_on (RemoveKey name key) m answer event left x quiet goes = goes_to (Decided answer Nothing) left (after m event) m x (k.by m event quiet) (λ n. tt) goes
  looks_on _ m answer event left x quiet goes = goes_to (Decided answer event) left m m x (k.same m) (λ n. quiet) goes

  tells_fault : (o : Option Fault) (left : ℕ) (m : Machine) (x : Made) → TellsFault o left m x → MadeMild m x
  tells_fault None left m x there = absurd there
  tells_fault (Some fault) left m x goes = goes_to (Decided (answers.Refused (Panic fault)) Nothing) left m m x (k.same m) (λ n. tt) goes

  ends_unless : (o : Option Fault) (answer : Answer (List ℕ)) (m : Machine) (session left : ℕ) (x : Made) → EndsUnless o answer m session left x → MadeMild m x
  ends_unless None answer m session left x is = finishes answer left (after m (EndTransaction session)) m x (k.by m (EndTransaction session) tt) is
  ends_unless (Some fault) answer m session left x ends = ends_with (answers.Refused (Panic fault)) m m x (k.same m) ends

  goes_on : (again : Bool) (doing : Doing) (m : Machine) (session : ℕ) (x : Made) → IsMildDoing barred doing → GoesOn again doing m session x → MadeMild m x
  goes_on again Resting m session x mild is = subst (λ (y : Made). MadeMild m y) (sym is) (record { to = k.same m; mild = tt })
  goes_on again (Asked made left) m session x mild (inl goes) = goes_to (Asked made) left m m x (k.same m) (λ n. mild) goes
  goes_on again (Asked made left) m session x mild (inr j) = judges made m session left x mild j
  goes_on again (Placed made table left) m session x mild (inl goes) = goes_to (Placed made table) left m m x (k.same m) (λ n. mild) goes
  goes_on again (Placed made table left) m session x mild (inr (inl looks)) =
      looks_on made m looks.answer looks.event left x (look_quiet made m session looks.transaction table looks.outcome looks.event looks.finds) looks.goes
  goes_on again (Placed made table left) m session x mild (inr (inr (inl goes))) = goes_to (Decided (answers.Refused NoMemory) Nothing) left m m x (k.same m) (λ n. tt) goes
  goes_on again (Placed made table left) m session x mild (inr (inr (inr goes))) = goes_to (Decided (answers.Refused (Again goes.1.0)) Nothing) left m m x (k.same m) (λ n. tt) goes.1.1
  goes_on again (Decided answer event left) m session x mild (inl goes) = goes_to (Decided answer event) left m m x (k.same m) (λ n. mild) goes
  goes_on again (Decided answer event left) m session x mild (inr (inl ends)) = ends_with answer (after m event) m x (k.by m event mild) ends
  goes_on again (Decided answer event left) m session x mild (inr (inr tells)) = tells_fault m.fault left m x tells
  goes_on again (Ending answer left) m session x mild (inl goes) = goes_to (Ending answer) left m m x (k.same m) (λ n. tt) goes
  goes_on again (Ending answer left) m session x mild (inr ends) = ends_unless m.fault answer m session left x ends

  kept_out : (doing : Doing) (r : Refusal) (m : Machine) (x : Made) → IsKeptOut doing r m x → MadeMild m x
  kept_out (Placed made table left) r m x goes = goes_to (Decided (answers.Refused r) Nothing) left m m x (k.same m) (λ n. tt) goes
  kept_out _ r m x there = absurd there

  -- ---- worlds

  pub record Stays (w later : World) : Type 0 where
    pub to : k.To w.machine later.machine
    pub mild : IsMildWorld barred later

  stays_at : (w later next : World) → next ≡ later → Stays w later → Stays w next
  stays_at w later next is stays = subst (λ (x : World). Stays w x) (sym is) stays

  unmoved : (w next : World) → IsMildWorld barred w → next ≡ w → Stays w next
  unmoved w next mild is = stays_at w w next is (record { to = k.same w.machine; mild = mild })

  with_machine : (w : World) (m : Machine) → IsMildWorld barred w → k.To w.machine m → Stays w (record w { machine = m })
  with_machine w m mild so = record { to = so; mild = record { sessions = mild.sessions; systems = mild.systems } }

  with_session : (w : World) (m : Machine) (session : ℕ) (doing : Doing) → IsMildWorld barred w → k.To w.machine m → IsMildDoing barred doing → Stays w (record w { machine = m; sessions = slice_set w.sessions session doing })
  with_session w m session doing mild so there =
      record { to = so; mild = record { sessions = each_set (λ (d : Doing). IsMildDoing barred d) w.sessions session doing Resting mild.sessions there; systems = mild.systems } }

  with_system : (w : World) (m : Machine) (number : ℕ) (o : Option Call) → IsMildWorld barred w → k.To w.machine m → IsMildIn barred o → Stays w (record w { machine = m; systems = slice_set w.systems number o })
  with_system w m number o mild so there =
      record { to = so; mild = record { sessions = mild.sessions; systems = each_set (λ (c : Option Call). IsMildIn barred c) w.systems number o None mild.systems there } }

  begins : (doing : Doing) (w : World) (session : ℕ) (made : Call) (told : Told) (next : World) → IsMild barred made → IsMildWorld barred w → BeginsIn doing w session made told next → Stays w next
  begins Resting w session made told next there mild (left, started, is) =
      let s = with_session w w.machine session (Asked made left) mild (k.same w.machine) there in
      stays_at w _ next is (record { to = s.to; mild = record { sessions = s.mild.sessions; systems = s.mild.systems } })
  begins (Asked other n) w session made told next there mild (refuses, is) = unmoved w next mild is
  begins (Placed other table n) w session made told next there mild (refuses, is) = unmoved w next mild is
  begins (Decided other event n) w session made told next there mild (refuses, is) = unmoved w next mild is
  begins (Ending other n) w session made told next there mild (refuses, is) = unmoved w next mild is

  asks : (o : Option Call) (w : World) (number : ℕ) (made : Call) (told : Told) (next : World) → IsMild barred made → IsMildWorld barred w → AsksIn o w number made told next → Stays w next
  asks None w number made told next there mild (started, is) = stays_at w _ next is (with_system w w.machine number (Some made) mild (k.same w.machine) there)
  asks (Some other) w number made told next there mild (refuses, is) = unmoved w next mild is

  makes : (o : Option Call) (w : World) (number : ℕ) (told : Told) (next : World) → IsMildIn barred o → IsMildWorld barred w → MakesIn o w number told next → Stays w next
  makes None w number told next there mild (refuses, is) = unmoved w next mild is
  makes (Some made) w number told next there mild (answer, m, answered, tells, is) =
      stays_at w _ next is (with_system w m number None mild (system_goes barred k w.machine m made answer there answered) tt)

  pub steps : (w next : World) (step : Step) (told : Told) → IsMildWorld barred w → IsMildStep barred step → MayStep w step told next → Stays w next
  steps w next (Start (call.Session session made)) told mild there may = begins (doing_of w session) w session (session_call_in made) told next there mild may
  steps w next (Start (call.System number made)) told mild there may = asks (slice_index_or w.systems number None) w number (system_call_in made) told next there mild may
  steps w next (Go (by.Session session)) told mild there may =
      let x = goes_on (w.again session) (doing_of w session) w.machine session may.made (mild.sessions session) may.goes in
      stays_at w _ next may.leaves (with_session w may.made.machine session may.made.doing mild x.to x.mild)
  steps w next (Go (by.System number)) told mild there may = makes (slice_index_or w.systems number None) w number told next (mild.systems number) mild may

  calls : (doing : Doing) (w : World) (session : ℕ) (made : Call) (answer : Answer (List ℕ)) (next : World) → IsMild barred made → IsMildWorld barred w → CallsIn doing w session made answer next → Stays w next
  calls Resting w session made answer next there mild (answered, is) = stays_at w _ next is (with_machine w next.machine mild (session_goes barred k w.machine next.machine session made answer there answered))
  calls (Asked other n) w session made answer next there mild (refuses, is) = unmoved w next mild is
  calls (Placed other table n) w session made answer next there mild (refuses, is) = unmoved w next mild is
  calls (Decided other event n) w session made answer next there mild (refuses, is) = unmoved w next mild is
  calls (Ending other n) w session made answer next there mild (refuses, is) = unmoved w next mild is

  calls_kept : (kept : KeptBy) (doing : Doing) (w : World) (session : ℕ) (made : Call) (answer : Answer (List ℕ)) (next : World) → IsMild barred made → IsMildWorld barred w → CallsKept kept doing w session made answer next → Stays w next
  calls_kept kept Resting w session made answer next there mild (answered, fault, is) =
      stays_at w _ next is (with_machine w next.machine mild (spared_goes barred k kept w.machine next.machine session made answer there (spared_of kept w.machine next.machine fault) answered))
  calls_kept kept (Asked other n) w session made answer next there mild (refuses, is) = unmoved w next mild is
  calls_kept kept (Placed other table n) w session made answer next there mild (refuses, is) = unmoved w next mild is
  calls_kept kept (Decided other event n) w session made answer next there mild (refuses, is) = unmoved w next mild is
  calls_kept kept (Ending other n) w session made answer next there mild (refuses, is) = unmoved w next mild is

  -- a call of a session from which its leaf may have been kept
  pub kept_so : (kept : KeptBy) (w next : World) (session : ℕ) (made : Call) (answer : Answer (List ℕ)) → IsMildWorld barred w → IsMild barred made → MayCallKept kept w session made answer next → Stays w next
  kept_so kept w next session made answer mild there may = calls_kept kept (doing_of w session) w session made answer next there mild may

  -- one that is refused the leaf that it waits for
  pub out_so : (w next : World) (session : ℕ) (r : Refusal) → IsMildWorld barred w → MayKeepOut w session r next → Stays w next
  out_so w next session r mild may =
      let x = kept_out (doing_of w session) r w.machine may.made may.keeps in
      stays_at w _ next may.leaves (with_session w may.made.machine session may.made.doing mild x.to x.mild)

  makes_at : (o : Option Call) (w : World) (made : Call) (answer : Answer (List ℕ)) (next : World) → IsMild barred made → IsMildWorld barred w → MakesAt o w made answer next → Stays w next
  makes_at None w made answer next there mild (answered, is) = stays_at w _ next is (with_machine w next.machine mild (system_goes barred k w.machine next.machine made answer there answered))
  makes_at (Some other) w made answer next there mild (refuses, is) = unmoved w next mild is

  pub answers_so : (w next : World) (made : AnyCall) (answer : Answer (List ℕ)) → IsMildWorld barred w → IsMildAny barred made → MayAnswer w made answer next → Stays w next
  answers_so w next (call.Session session made) answer mild there may = calls (doing_of w session) w session (session_call_in made) answer next there mild may
  answers_so w next (call.System number made) answer mild there may = makes_at (slice_index_or w.systems number None) w (system_call_in made) answer next there mild may

  pub opens_more : (w : World) → IsMildWorld barred w → Stays w (with_session_more w)
  opens_more w mild = record { to = k.by w.machine OpenSession tt; mild = record { sessions = each_more (λ (d : Doing). IsMildDoing barred d) w.sessions Resting Resting mild.sessions tt; systems = mild.systems } }
