-- Events that calls decide: none of a checkpoint, no rollback to stable and no fault.
use Rattle.std.proofs.Common.{◌≡◌, ℕ, Bool, true, false, List, [], ◌∷◌, Option, Some, None, refl, sym, subst}
use Rattle.std.specs.Prelude.{if◌then◌else◌, ◌==◌, length, nat_le, nat_lt, not}
use Rattle.limits.specs.declared.TheConstants.{NUMBER_MAX, SESSIONS_MAX, TABLES_MAX}
use Rattle.failure.specs.declared.Fault.{Fault}
use Rattle.item.specs.declared.Change.{Change}
use Rattle.wt_code.specs.declared.refusals.Refusal.{Refusal}
use Rattle.wt_code.specs.declared.refusals.Refusal.TheVariants.{NotFound, Rollback as RollsBack}
use Rattle.wt_code.specs.declared.refusals.Refusal.TheVariants as told
use Rattle.wt_code.specs.declared.refusals.Invalid.{Invalid}
use Rattle.wt_code.specs.declared.refusals.Invalid.TheVariants as why
use Rattle.wt_code.specs.declared.refusals.Limit.TheVariants as counted
use Rattle.kv_model.specs.History.{Table, named, tables}
use Rattle.kv_model.specs.Machine.{Machine, Transaction, Phase, Running, Failed, Prepared, Resolving, Leaving, Event, OpenSession, BeginAt, DrawId, AcceptWrite, RefuseWrite, PrepareAt, CommitAt, StartLeaving, PlaceCursor, CreateTable, SetStamps, RollbackToStable, CheckpointStart, CheckpointFinish, CheckpointDrop, GoDown, Nothing, of_some, transaction_of}
use Rattle.kv_model.specs.Refusals.{begin_rules, commit_rules, durable_below, first_of, or_stamp, prepare_rules, resolve_rules, set_rules, stamp_of}
use Rattle.kv_model.specs.Rows.{reset_decision, row_event, seek_event}
use Rattle.kv_model.specs.Decisions.{Outcome, Done, Gives, GivesRow, Refused, Request, OpenCall, BeginCall, PrepareCall, CommitCall, RollbackCall, EndCall, FindKey, FindToWrite, HistoryCall, FindRow, CreateCall, SetCall, RtsCall, StartCall, StepCall, CaptureCall, FinishCall, Demand, WriteAnswer, checked, commit_decision, create_decision, decision, id_drawn, in_state, is_name, is_on_page, judged, key_checks, rollback_decision, ruled, running_session, same_formats, table_checks, while_up, with_session, write_checks}
use Rattle.kv_model.specs.Calls.{Call, Commit, CkptStart, CkptStep, CkptFinish, Rts, Close}

-- barred: no commit may have a stamp
module _ (barred : Type 0) where
  abbrev pub IsQuiet : Event → Type 0
  IsQuiet (CommitAt session commit durable) = barred → (commit ≡ 0) × (durable ≡ 0)
  IsQuiet RollbackToStable = ⊥
  IsQuiet CheckpointStart = ⊥
  IsQuiet CheckpointFinish = ⊥
  IsQuiet CheckpointDrop = ⊥
  IsQuiet (GoDown fault) = ⊥
  IsQuiet _ = Unit {0}

  abbrev pub Quiet : Outcome × Event → Type 0
  Quiet d = IsQuiet d.1

  -- a call whose events are
  abbrev pub IsMild : Call → Type 0
  IsMild (Commit None None) = Unit {0}
  IsMild (Commit commit durable) = barred → ⊥
  IsMild CkptStart = ⊥
  IsMild CkptStep = ⊥
  IsMild CkptFinish = ⊥
  IsMild Rts = ⊥
  IsMild Close = ⊥
  IsMild _ = Unit {0}

  abbrev pub IsMildRequest : Request → Type 0
  IsMildRequest (CommitCall None None) = Unit {0}
  IsMildRequest (CommitCall commit durable) = barred → ⊥
  IsMildRequest RtsCall = ⊥
  IsMildRequest (StartCall number) = ⊥
  IsMildRequest (StepCall left) = ⊥
  IsMildRequest (CaptureCall left storing) = ⊥
  IsMildRequest (FinishCall left storing) = ⊥
  IsMildRequest _ = Unit {0}

  pub commit_mild : (commit durable : Option ℕ) → IsMild (Commit commit durable) → IsMildRequest (CommitCall commit durable)
  commit_mild None None mild = tt
  commit_mild None (Some durable) mild = mild
  commit_mild (Some commit) durable mild = mild

  -- ---- decisions

  checked_quiet : (checks : List (Bool × Refusal)) (go : Outcome × Event) → Quiet go → Quiet (checked checks go)
  checked_quiet checks go quiet = by (first_of checks) where
    by : (o : Option Refusal) → Quiet (of_some go (λ r. (Refused r, Nothing)) o)
    by None = quiet
    by (Some r) = tt

  ruled_quiet : (rules : List (Bool × Invalid)) (event refusal : Event) → IsQuiet event → IsQuiet refusal → Quiet (ruled rules event refusal)
  ruled_quiet rules event refusal quiet other = by (first_of rules) where
    by : (o : Option Invalid) → Quiet (of_some (Done, event) (λ reason. (Refused (told.Invalid reason), refusal)) o)
    by None = quiet
    by (Some reason) = other

  while_up_quiet : (m : Machine) (go : Outcome × Event) → Quiet go → Quiet (while_up m go)
  while_up_quiet m go quiet = by m.fault where
    by : (o : Option Fault) → Quiet (of_some go (λ fault. (Refused (told.Panic fault), Nothing)) o)
    by None = quiet
    by (Some fault) = tt

  with_session_quiet : (m : Machine) (session : ℕ) (go : Transaction → Outcome × Event) → ((t : Transaction) → Quiet (go t)) → Quiet (with_session m session go)
  with_session_quiet m session go quiet = by (transaction_of m session) where
    by : (o : Option Transaction) → Quiet (of_some (Refused (told.Invalid why.NoTxn), Nothing) go o)
    by None = tt
    by (Some t) = quiet t

  in_state_quiet : (p : Phase) (go : Outcome × Event) → Quiet go → Quiet (in_state p go)
  in_state_quiet Running go quiet = quiet
  in_state_quiet Failed go quiet = tt
  in_state_quiet (Prepared stamp) go quiet = tt
  in_state_quiet Resolving go quiet = tt
  in_state_quiet Leaving go quiet = tt

  running_quiet : (m : Machine) (session : ℕ) (go : Transaction → Outcome × Event) → ((t : Transaction) → Quiet (go t)) → Quiet (running_session m session go)
  running_quiet m session go quiet = with_session_quiet m session (λ t. in_state t.phase (go t)) (λ t. in_state_quiet t.phase (go t) (quiet t))

  begin_quiet : (m : Machine) (session : ℕ) (read : Option ℕ) (o : Option Transaction) → Quiet (of_some (ruled (begin_rules m.oldest read) (BeginAt session (stamp_of read)) Nothing) (λ t. (Refused (told.Invalid why.InTxn), Nothing)) o)
  begin_quiet m session read None = ruled_quiet (begin_rules m.oldest read) (BeginAt session (stamp_of read)) Nothing tt tt
  begin_quiet m session read (Some t) = tt

  -- the stamps of a running transaction's commit, and of a prepared one's
  one_stamp : (commit durable : Option ℕ) → IsMildRequest (CommitCall commit durable) → barred → (stamp_of commit ≡ 0) × (stamp_of commit ≡ 0)
  one_stamp None None mild bar = (refl, refl)
  one_stamp None (Some durable) mild bar = absurd (mild bar)
  one_stamp (Some commit) durable mild bar = absurd (mild bar)

  two_stamps : (commit durable : Option ℕ) → IsMildRequest (CommitCall commit durable) → barred → (stamp_of commit ≡ 0) × (or_stamp (stamp_of durable) (stamp_of commit) ≡ 0)
  two_stamps None None mild bar = (refl, refl)
  two_stamps None (Some durable) mild bar = absurd (mild bar)
  two_stamps (Some commit) durable mild bar = absurd (mild bar)

  commit_quiet : (p : Phase) (m : Machine) (session : ℕ) (t : Transaction) (commit durable : Option ℕ) → IsMildRequest (CommitCall commit durable) → Quiet (commit_decision p m session t commit durable)
  commit_quiet Running m session t commit durable mild =
      ruled_quiet (commit_rules m.oldest m.stable commit durable (durable_below m t.writes)) (CommitAt session (stamp_of commit) (stamp_of commit)) (StartLeaving session) (one_stamp commit durable mild) tt
  commit_quiet (Prepared p) m session t commit durable mild =
      ruled_quiet (resolve_rules m.oldest m.stable p commit durable (durable_below m t.writes)) (CommitAt session (stamp_of commit) (or_stamp (stamp_of durable) (stamp_of commit))) Nothing (two_stamps commit durable mild) tt
  commit_quiet Failed m session t commit durable mild = tt
  commit_quiet Resolving m session t commit durable mild = tt
  commit_quiet Leaving m session t commit durable mild = tt

  rollback_quiet : (p : Phase) (session : ℕ) → Quiet (rollback_decision p session)
  rollback_quiet Running session = tt
  rollback_quiet Failed session = tt
  rollback_quiet (Prepared stamp) session = tt
  rollback_quiet Resolving session = tt
  rollback_quiet Leaving session = tt

  id_quiet : (m : Machine) (session : ℕ) (t : Transaction) → Quiet (id_drawn m session t)
  id_quiet m session t = by (t.id == 0) where
    by : (b : Bool) → Quiet (if b then checked ((nat_lt NUMBER_MAX m.next, told.Limit counted.Ids) ∷ []) (Done, DrawId session) else (Done, Nothing))
    by true = checked_quiet ((nat_lt NUMBER_MAX m.next, told.Limit counted.Ids) ∷ []) (Done, DrawId session) tt
    by false = tt

  create_quiet : (known : List Table) (table : Table) (old : Option Table) → Quiet (create_decision known table old)
  create_quiet known table None = checked_quiet ((nat_le TABLES_MAX (length known), told.Limit counted.Tables) ∷ []) (Done, CreateTable table) tt
  create_quiet known table (Some old) = by (same_formats table.formats old.formats) where
    by : (b : Bool) → Quiet (if b then (Done, Nothing) else (Refused told.Exists, Nothing))
    by true = tt
    by false = tt

  judged_quiet : (m : Machine) (session : ℕ) (request : Request) → IsMildRequest request → Quiet (judged m session request)
  judged_quiet m session OpenCall mild = checked_quiet ((nat_le SESSIONS_MAX (length m.sessions), told.Limit counted.Sessions) ∷ []) (Done, OpenSession) tt
  judged_quiet m session (BeginCall read) mild = begin_quiet m session read (transaction_of m session)
  judged_quiet m session (PrepareCall stamp) mild =
      running_quiet m session (λ t. ruled (prepare_rules m.stable stamp) (PrepareAt session stamp) Nothing) (λ t. ruled_quiet (prepare_rules m.stable stamp) (PrepareAt session stamp) Nothing tt tt)
  judged_quiet m session (CommitCall commit durable) mild =
      with_session_quiet m session (λ t. commit_decision t.phase m session t commit durable) (λ t. commit_quiet t.phase m session t commit durable mild)
  judged_quiet m session RollbackCall mild = with_session_quiet m session (λ t. rollback_decision t.phase session) (λ t. rollback_quiet t.phase session)
  judged_quiet m session (EndCall decided) mild = tt
  judged_quiet m session HistoryCall mild = tt
  judged_quiet m session (FindKey table key) mild = running_quiet m session (λ t. checked (key_checks m table key) (Done, Nothing)) (λ t. checked_quiet (key_checks m table key) (Done, Nothing) tt)
  judged_quiet m session (FindToWrite table key change) mild =
      running_quiet m session (λ t. checked (write_checks m table key change) (id_drawn m session t)) (λ t. checked_quiet (write_checks m table key change) (id_drawn m session t) (id_quiet m session t))
  judged_quiet m session (FindRow table) mild =
      let checks = (not (is_name table), told.Invalid why.BadName) ∷ table_checks m table in
      running_quiet m session (λ t. checked checks (Done, Nothing)) (λ t. checked_quiet checks (Done, Nothing) tt)
  judged_quiet m session (CreateCall table) mild =
      let made = create_decision (tables m.history) table (named table.name (tables m.history)) in
      checked_quiet ((not (is_name table.name), told.Invalid why.BadName) ∷ []) made (create_quiet (tables m.history) table (named table.name (tables m.history)))
  judged_quiet m session (SetCall oldest stable) mild = ruled_quiet (set_rules m.oldest m.stable oldest stable) (SetStamps (stamp_of oldest) (stamp_of stable)) Nothing tt tt
  judged_quiet m session RtsCall mild = absurd mild
  judged_quiet m session (StartCall number) mild = absurd mild
  judged_quiet m session (StepCall left) mild = absurd mild
  judged_quiet m session (CaptureCall left storing) mild = absurd mild
  judged_quiet m session (FinishCall left storing) mild = absurd mild

  pub decision_quiet : (m : Machine) (session : ℕ) (request : Request) → IsMildRequest request → Quiet (decision m session request)
  decision_quiet m session request mild = by (is_on_page m session request) where
    judges : Quiet (judged m session request)
    judges = judged_quiet m session request mild

    by : (b : Bool) → Quiet (if b then judged m session request else while_up m (judged m session request))
    by true = judges
    by false = while_up_quiet m (judged m session request) judges

  pub reset_quiet : (m : Machine) (session cursor : ℕ) → Quiet (reset_decision m session cursor)
  reset_quiet m session cursor = running_quiet m session (λ t. (Done, PlaceCursor session cursor None)) (λ t. tt)

  -- ---- looks

  pub is_quiet : (event of : Event) → event ≡ of → IsQuiet of → IsQuiet event
  is_quiet event of is quiet = subst IsQuiet (sym is) quiet

  pub seek_quiet : (session cursor table : ℕ) (key : List ℕ) (o : Outcome) → IsQuiet (seek_event session cursor table key o)
  seek_quiet session cursor table key (Gives v) = tt
  seek_quiet session cursor table key (Refused NotFound) = tt
  seek_quiet session cursor table key _ = tt

  pub row_quiet : (session cursor table : ℕ) (o : Outcome) → IsQuiet (row_event session cursor table o)
  row_quiet session cursor table (GivesRow key v) = tt
  row_quiet session cursor table (Refused NotFound) = tt
  row_quiet session cursor table _ = tt

  pub write_quiet : (m : Machine) (session : ℕ) (t : Transaction) (table : ℕ) (key : List ℕ) (change : Change) (demand : Demand) (o : Outcome) (event : Event) → WriteAnswer m session t table key change demand o event → IsQuiet event
  write_quiet m session t table key change demand Done event w = is_quiet event (AcceptWrite session table key change) w.2 tt
  write_quiet m session t table key change demand (Refused (RollsBack run id)) event w = is_quiet event (RefuseWrite session) w.1 tt
  write_quiet m session t table key change demand (Refused refusal) event w = is_quiet event Nothing w.2 tt
  write_quiet m session t table key change demand _ event w = absurd w
