-- A call that began with nobody between comes to an answer of the whole call.
use Rattle.std.proofs.Common.{◌≡◌, ◌⊎◌, ℕ, refl, ap, sym, ◌∙◌, Bool, true, false, List, [], ◌∷◌, inl, inr, subst}
use Rattle.std.specs.Prelude.{Option, Some, None, if◌then◌else◌, nat_lt, not, ◌==◌}
use Rattle.failure.specs.declared.Fault.{Fault}
use Rattle.item.specs.declared.Change.{Change}
use Rattle.item.specs.declared.Change.TheVariants.{Put as PutOf, Remove as RemoveOf}
use Rattle.wt_code.specs.declared.answers.Answer.{Answer}
use Rattle.wt_code.specs.declared.answers.Answer.TheVariants as answers
use Rattle.wt_code.specs.declared.refusals.Refusal.{Refusal}
use Rattle.wt_code.specs.declared.refusals.Refusal.TheVariants as told
use Rattle.wt_code.specs.declared.refusals.Invalid.{Invalid}
use Rattle.wt_code.specs.declared.refusals.Invalid.TheVariants as why
use Rattle.wt_code.specs.declared.refusals.Limit.TheVariants as counted
use Rattle.limits.specs.declared.TheConstants.{NUMBER_MAX}
use Rattle.kv_model.specs.History.{Table, tables, named}
use Rattle.kv_model.specs.Machine.{Machine, Transaction, Phase, Running, Failed, Prepared, Resolving, Leaving, transaction_of, of_some, Event, OpenSession, BeginAt, DrawId, AcceptWrite, RefuseWrite, PrepareAt, CommitAt, StartLeaving, EndTransaction, PlaceCursor, CreateTable, SetStamps, RollbackToStable, CheckpointStart, CheckpointFinish, CheckpointDrop, GoDown, Nothing, after}
use Rattle.kv_model.specs.Refusals.{first_of, stamp_of, or_stamp, durable_below, commit_rules, resolve_rules}
use Rattle.kv_model.specs.Decisions.{Outcome, Done, Gives, GivesRow, Left, End, Resumes, Refused, Request, BeginCall, PrepareCall, CommitCall, RollbackCall, FindKey, FindToWrite, FindRow, decision, judged, is_on_page, while_up, with_session, in_state, checked, ruled, invalid, id_drawn, commit_decision, rollback_decision, Demand, Occupied, GetAnswer, WriteAnswer, key_checks, write_checks, table_checks, is_name}
use Rattle.kv_model.specs.Rows.{SeekAnswer, NextAnswer, reset_decision}
use Rattle.kv_model.specs.Calls.{Call, Begin, GetKey, PutKey, RemoveKey, SeekKey, NextRow, Reset, Prepare, Commit, Rollback, Create, Set, CkptStart, CkptStep, CkptFinish, Evict, Rts, Close, SessionAnswers, AtPlace, IsHeldUp, Finds as FindsPlace, settled, ended}
use Rattle.kv_model.specs.Told.{Tells}
use Rattle.engine_world.specs.Worlds.{Doing, Resting, Asked, Placed, Decided, Ending}
use Rattle.engine_world.specs.Steps.{Made, GoesTo, EndsWith, Finishes, JudgedBy, FoundBy, Finds, EndsIn, SettledBy, Settles, Judges, LookAnswer, Looks, LooksShort, TellsFault, EndsUnless}
use Rattle.engine_world.specs.Whole.{KeptOutReaches, around_kept, IsFound, PlacedFrom, Reached, ReachesOn, StepsReach}

-- ---- the events of decisions

-- an event by which a table is found
abbrev IsQuiet : Event → Type 0
IsQuiet Nothing = Unit {0}
IsQuiet (DrawId s) = Unit {0}
IsQuiet _ = ⊥

-- an event of a commit or a rollback
abbrev IsSettling : Event → Type 0
IsSettling Nothing = Unit {0}
IsSettling (CommitAt s commit durable) = Unit {0}
IsSettling (StartLeaving s) = Unit {0}
IsSettling _ = ⊥

while-up-by : (P : Event → Type 0) (m : Machine) (d : Outcome × Event) → P Nothing → P d.1 → P (while_up m d).1
while-up-by P m d none it = by-fault m.fault where
  by-fault : (o : Option Fault) → P (of_some {B = Outcome × Event} d (λ fault. (Refused (told.Panic fault), Nothing)) o).1
  by-fault None = it
  by-fault (Some fault) = none

session-by : (P : Event → Type 0) (m : Machine) (s : ℕ) (go : Transaction → Outcome × Event) → P Nothing → ((t : Transaction) → P (go t).1) → P (with_session m s go).1
session-by P m s go none it = by-seat (transaction_of m s) where
  by-seat : (o : Option Transaction) → P (of_some {B = Outcome × Event} (invalid why.NoTxn) go o).1
  by-seat None = none
  by-seat (Some t) = it t

state-by : (P : Event → Type 0) (phase : Phase) (d : Outcome × Event) → P Nothing → P d.1 → P (in_state phase d).1
state-by P Running d none it = it
state-by P Failed d none it = none
state-by P (Prepared p) d none it = none
state-by P Resolving d none it = none
state-by P Leaving d none it = none

checked-by : (P : Event → Type 0) (checks : List (Bool × Refusal)) (d : Outcome × Event) → P Nothing → P d.1 → P (checked checks d).1
checked-by P checks d none it = by-first (first_of checks) where
  by-first : (o : Option Refusal) → P (of_some {B = Outcome × Event} d (λ r. (Refused r, Nothing)) o).1
  by-first None = it
  by-first (Some r) = none

ruled-by : (P : Event → Type 0) (rules : List (Bool × Invalid)) (event refusal : Event) → P event → P refusal → P (ruled rules event refusal).1
ruled-by P rules event refusal it other = by-first (first_of rules) where
  by-first : (o : Option Invalid) → P (of_some {B = Outcome × Event} (Done, event) (λ reason. (Refused (told.Invalid reason), refusal)) o).1
  by-first None = it
  by-first (Some reason) = other

key-quiet : (m : Machine) (s : ℕ) (name key : List ℕ) → IsQuiet (decision m s (FindKey name key)).1
key-quiet m s name key = while-up-by IsQuiet m (judged m s (FindKey name key)) tt (session-by IsQuiet m s (λ t. in_state t.phase (checked (key_checks m name key) (Done, Nothing))) tt
    (λ t. state-by IsQuiet t.phase (checked (key_checks m name key) (Done, Nothing)) tt (checked-by IsQuiet (key_checks m name key) (Done, Nothing) tt tt)))

row-quiet : (m : Machine) (s : ℕ) (name : List ℕ) → IsQuiet (decision m s (FindRow name)).1
row-quiet m s name = while-up-by IsQuiet m (judged m s (FindRow name)) tt (session-by IsQuiet m s (λ t. in_state t.phase (checked checks (Done, Nothing))) tt
    (λ t. state-by IsQuiet t.phase (checked checks (Done, Nothing)) tt (checked-by IsQuiet checks (Done, Nothing) tt tt))) where
      checks : List (Bool × Refusal)
      checks = (not (is_name name), told.Invalid why.BadName) ∷ table_checks m name

write-quiet : (m : Machine) (s : ℕ) (name key : List ℕ) (change : Change) → IsQuiet (decision m s (FindToWrite name key change)).1
write-quiet m s name key change = while-up-by IsQuiet m (judged m s (FindToWrite name key change)) tt (session-by IsQuiet m s (λ t. in_state t.phase (checked (write_checks m name key change) (id_drawn m s t))) tt
    (λ t. state-by IsQuiet t.phase (checked (write_checks m name key change) (id_drawn m s t)) tt (checked-by IsQuiet (write_checks m name key change) (id_drawn m s t) tt (drawn t)))) where
      drawn : (t : Transaction) → IsQuiet (id_drawn m s t).1
      drawn t = by-id (t.id == 0) where
        by-id : (b : Bool) → IsQuiet (let d : Outcome × Event = (if b then checked ((nat_lt NUMBER_MAX m.next, told.Limit counted.Ids) ∷ []) (Done, DrawId s) else (Done, Nothing)) in d.1)
        by-id true = checked-by IsQuiet ((nat_lt NUMBER_MAX m.next, told.Limit counted.Ids) ∷ []) (Done, DrawId s) tt tt
        by-id false = tt

commit-settles : (m : Machine) (s : ℕ) (commit durable : Option ℕ) → IsSettling (decision m s (CommitCall commit durable)).1
commit-settles m s commit durable = while-up-by IsSettling m (judged m s (CommitCall commit durable)) tt (session-by IsSettling m s (λ t. commit_decision t.phase m s t commit durable) tt (λ t. by-phase t t.phase)) where
  by-phase : (t : Transaction) (p : Phase) → IsSettling (commit_decision p m s t commit durable).1
  by-phase t Running = ruled-by IsSettling (commit_rules m.oldest m.stable commit durable (durable_below m t.writes)) (CommitAt s (stamp_of commit) (stamp_of commit)) (StartLeaving s) tt tt
  by-phase t (Prepared p) =
      ruled-by IsSettling (resolve_rules m.oldest m.stable p commit durable (durable_below m t.writes)) (CommitAt s (stamp_of commit) (or_stamp (stamp_of durable) (stamp_of commit))) Nothing tt tt
  by-phase t Failed = tt
  by-phase t Resolving = tt
  by-phase t Leaving = tt

rollback-settles : (m : Machine) (s : ℕ) → IsSettling (decision m s RollbackCall).1
rollback-settles m s = by-page (is_on_page m s RollbackCall) where
  by-phase : (p : Phase) → IsSettling (rollback_decision p s).1
  by-phase Running = tt
  by-phase (Prepared p) = tt
  by-phase Failed = tt
  by-phase Resolving = tt
  by-phase Leaving = tt

  judges : IsSettling (judged m s RollbackCall).1
  judges = session-by IsSettling m s (λ t. rollback_decision t.phase s) tt (λ t. by-phase t.phase)

  by-page : (b : Bool) → IsSettling (let d : Outcome × Event = (if b then judged m s RollbackCall else while_up m (judged m s RollbackCall)) in d.1)
  by-page true = judges
  by-page false = while-up-by IsSettling m (judged m s RollbackCall) tt judges

-- what is done under a fault that is told first was done without one
up-where-done : (m : Machine) (d : Outcome × Event) (event : Event) → while_up m d ≡ (Done, event) → m.fault ≡ None
up-where-done m d event is = by-fault m.fault refl is where
  by-fault : (o : Option Fault) → m.fault ≡ o → (let x : Outcome × Event = of_some d (λ fault. (Refused (told.Panic fault), Nothing)) o in x) ≡ (Done, event) → m.fault ≡ None
  by-fault None same e = same
  by-fault (Some fault) same e = absurd (let two : Refused (told.Panic fault) ≡ Done = ap (λ (x : Outcome × Event). x.0) e in cc)

quiet-fault : (m : Machine) (event : Event) → IsQuiet event → (after m event).fault ≡ m.fault
quiet-fault m Nothing quiet = refl
quiet-fault m (DrawId s) quiet = refl
quiet-fault m OpenSession quiet = absurd quiet
quiet-fault m (BeginAt s read) quiet = absurd quiet
quiet-fault m (AcceptWrite s table key change) quiet = absurd quiet
quiet-fault m (RefuseWrite s) quiet = absurd quiet
quiet-fault m (PrepareAt s stamp) quiet = absurd quiet
quiet-fault m (CommitAt s commit durable) quiet = absurd quiet
quiet-fault m (StartLeaving s) quiet = absurd quiet
quiet-fault m (EndTransaction s) quiet = absurd quiet
quiet-fault m (PlaceCursor s cursor position) quiet = absurd quiet
quiet-fault m (CreateTable table) quiet = absurd quiet
quiet-fault m (SetStamps oldest stable) quiet = absurd quiet
quiet-fault m RollbackToStable quiet = absurd quiet
quiet-fault m CheckpointStart quiet = absurd quiet
quiet-fault m CheckpointFinish quiet = absurd quiet
quiet-fault m CheckpointDrop quiet = absurd quiet
quiet-fault m (GoDown fault) quiet = absurd quiet

-- the event of a write takes no machine down
write-fault : (m : Machine) (s : ℕ) (t : Transaction) (table : ℕ) (key : List ℕ) (change : Change) (demand : Demand) (outcome : Outcome) (event : Event) → WriteAnswer m s t table key change demand outcome event → (after m event).fault ≡ m.fault
write-fault m s t table key change demand outcome event is = by-outcome outcome is where
  accepted : event ≡ AcceptWrite s table key change → (after m event).fault ≡ m.fault
  accepted e = ap (λ x. (after m x).fault) e

  refused : event ≡ RefuseWrite s → (after m event).fault ≡ m.fault
  refused e = ap (λ x. (after m x).fault) e

  none : event ≡ Nothing → (after m event).fault ≡ m.fault
  none e = ap (λ x. (after m x).fault) e

  by-refusal : (r : Refusal) → WriteAnswer m s t table key change demand (Refused r) event → (after m event).fault ≡ m.fault
  by-refusal (told.Rollback run id) w = refused w.1
  by-refusal _ w = none w.2

  by-outcome : (o : Outcome) → WriteAnswer m s t table key change demand o event → (after m event).fault ≡ m.fault
  by-outcome Done w = accepted w.2
  by-outcome (Refused r) w = by-refusal r w
  by-outcome (Gives v) w = absurd w
  by-outcome (GivesRow k v) w = absurd w
  by-outcome Left w = absurd w
  by-outcome End w = absurd w
  by-outcome Resumes w = absurd w

-- ---- judged

module _ (kept : Option Refusal) (from : Machine) (session : ℕ) where
  -- the made step is the end of the call
  at-end : (call : Call) (answer : Answer (List ℕ)) (next : Machine) (made : Made) → EndsWith answer next made → SessionAnswers (around_kept kept) from session call answer next → ReachesOn kept from session call made
  at-end call answer next made ends is = subst (ReachesOn kept from session call) (sym ends) (inr (answer, refl, is))

  going : (call : Call) (to : ℕ → Doing) (left : ℕ) (next : Machine) (made : Made) → GoesTo to left next made → ((fewer : ℕ) → Reached kept from session call (to fewer) next) → ReachesOn kept from session call made
  going call to left next made goes is = subst (ReachesOn kept from session call) (sym goes.2) (inl (refl, is goes.0))

  finishing : (call : Call) (answer : Answer (List ℕ)) (left : ℕ) (next : Machine) (made : Made) → Finishes answer left next made → next.fault ≡ None → SessionAnswers (around_kept kept) from session call answer next → ReachesOn kept from session call made
  finishing call answer left next made (inl ends) up is = at-end call answer next made ends is
  finishing call answer left next made (inr goes) up is = going call (Decided answer Nothing) left next made goes (λ fewer. (up, is))

-- ---- by the call

module _ (kept : Option Refusal) (from : Machine) (session : ℕ) where
  judged-reach : (call : Call) (request : Request) (decided : Outcome × Event) (made : Made) → JudgedBy decided from made
      → ((answer : Answer (List ℕ)) → Tells decided.0 answer → SessionAnswers (around_kept kept) from session call answer (after from decided.1)) → ReachesOn kept from session call made
  judged-reach call request decided made by is = at-end kept from session call by.0 (after from decided.1) made by.2 (is by.0 by.1)

  finds-reach : (call : Call) (name : List ℕ) (request : Request) (left : ℕ) (made : Made) → Finds from session request call name left made
      → ((r : Refusal) (event : Event) → decision from session request ≡ (Refused r, event) → SessionAnswers (around_kept kept) from session call (answers.Refused r) from)
      → ((table : ℕ) (m : Machine) → IsFound from session name request table m → PlacedFrom from session call table m) → ReachesOn kept from session call made
  finds-reach call name request left made finds refuses places = by-outcome (decision from session request).0 (decision from session request).1 refl finds where
    by-outcome : (o : Outcome) (event : Event) → decision from session request ≡ (o, event) → FoundBy o event from call name left made → ReachesOn kept from session call made
    by-outcome (Refused r) event is found = at-end kept from session call (answers.Refused r) from made found (refuses r event is)
    by-outcome Done event is found = going kept from session call (Placed call found.0.number) left (after from event) made found.2
        (λ fewer. (refl, places found.0.number (after from event) (record { event = event; of = found.0; decided = is; machine = refl; found = found.1; number = refl })))
    by-outcome (Gives v) event is found = absurd found
    by-outcome (GivesRow k v) event is found = absurd found
    by-outcome Left event is found = absurd found
    by-outcome End event is found = absurd found
    by-outcome Resumes event is found = absurd found

  abbrev SettlesTo : Call → Request → Type 0
  SettlesTo call request = (outcome : Outcome) (next : Machine) (answer : Answer (List ℕ))
      → (let d = decision from session request in settled from session d.0 d.1 ≡ (outcome, next)) → Tells outcome answer → SessionAnswers (around_kept kept) from session call answer next

  settles-reach : (call : Call) (request : Request) (left : ℕ) (made : Made) → IsSettling (decision from session request).1 → SettlesTo call request → Settles from session request left made → ReachesOn kept from session call made
  settles-reach call request left made settling to settles = by-event (decision from session request).0 (decision from session request).1 refl settling settles where
    ends-reach : (o : Outcome) (event : Event) (middle : Machine) → (let d = decision from session request in settled from session d.0 d.1 ≡ ended middle session o)
        → (answer : Answer (List ℕ)) → Tells o answer → EndsIn (transaction_of middle session) answer middle session left made → ReachesOn kept from session call made
    ends-reach o event middle is answer tells ends = by-seat (transaction_of middle session) refl ends where
      by-fault : (t : Transaction) → transaction_of middle session ≡ Some t → (f : Option Fault) → middle.fault ≡ f
          → ended middle session o ≡ (let x : Outcome × Event = of_some (o, EndTransaction session) (λ fault. (Refused (told.Panic fault), Nothing)) f in (x.0, after middle x.1))
      by-fault t there f same = rw (there, same) refl

      by-seat : (seat : Option Transaction) → transaction_of middle session ≡ seat → EndsIn seat answer middle session left made → ReachesOn kept from session call made
      by-seat None none finishes = finishing kept from session call answer left middle made finishes.1 finishes.0
          (to o middle answer (is ∙ (let e : ended middle session o ≡ (o, middle) = rw none refl in e)) tells)
      by-seat (Some t) there (inl goes) = going kept from session call (Ending answer) left middle made goes (λ fewer. (
        (λ up. to o (after middle (EndTransaction session)) answer (is ∙ by-fault t there None up) tells),
        (λ fault down. to (Refused (told.Panic fault)) middle (answers.Refused (told.Panic fault)) (is ∙ by-fault t there (Some fault) down) refl),
      ))
      by-seat (Some t) there (inr finishes) = finishing kept from session call answer left (after middle (EndTransaction session)) made finishes.2 finishes.0 (to o (after middle (EndTransaction session)) answer (is ∙ by-fault t there None finishes.0) tells)

    by-event : (o : Outcome) (event : Event) → decision from session request ≡ (o, event) → IsSettling event → SettledBy o event from session left made → ReachesOn kept from session call made
    by-event o Nothing is quiet by = at-end kept from session call by.0 from made by.2 (to o from by.0 (ap (λ (d : Outcome × Event). settled from session d.0 d.1) is) by.1)
    by-event o (StartLeaving s) is quiet by = ends-reach o (StartLeaving s) (after from (StartLeaving s)) (ap (λ (d : Outcome × Event). settled from session d.0 d.1) is) by.0 by.1 by.2
    by-event o (CommitAt s commit durable) is quiet by = ends-reach o (CommitAt s commit durable) (after from (CommitAt s commit durable)) (ap (λ (d : Outcome × Event). settled from session d.0 d.1) is) by.0 by.1 by.2
    by-event o OpenSession is quiet by = absurd quiet
    by-event o (BeginAt s read) is quiet by = absurd quiet
    by-event o (DrawId s) is quiet by = absurd quiet
    by-event o (AcceptWrite s table key change) is quiet by = absurd quiet
    by-event o (RefuseWrite s) is quiet by = absurd quiet
    by-event o (PrepareAt s stamp) is quiet by = absurd quiet
    by-event o (EndTransaction s) is quiet by = absurd quiet
    by-event o (PlaceCursor s cursor position) is quiet by = absurd quiet
    by-event o (CreateTable table) is quiet by = absurd quiet
    by-event o (SetStamps oldest stable) is quiet by = absurd quiet
    by-event o RollbackToStable is quiet by = absurd quiet
    by-event o CheckpointStart is quiet by = absurd quiet
    by-event o CheckpointFinish is quiet by = absurd quiet
    by-event o CheckpointDrop is quiet by = absurd quiet
    by-event o (GoDown fault) is quiet by = absurd quiet

-- ---- every call

module _ (kept : Option Refusal) (from : Machine) (session : ℕ) where
  judges-reach : (call : Call) (left : ℕ) (made : Made) → Judges call from session left made → ReachesOn kept from session call made
  judges-reach (Begin read) left made by = judged-reach kept from session (Begin read) (BeginCall read) (decision from session (BeginCall read)) made by
      (λ answer tells. inl ((decision from session (BeginCall read)).0, ((decision from session (BeginCall read)).1, refl, refl), tells))
  judges-reach (Prepare stamp) left made by = judged-reach kept from session (Prepare stamp) (PrepareCall stamp) (decision from session (PrepareCall stamp)) made by
      (λ answer tells. inl ((decision from session (PrepareCall stamp)).0, ((decision from session (PrepareCall stamp)).1, refl, refl), tells))
  judges-reach (Reset cursor) left made by = judged-reach kept from session (Reset cursor) RollbackCall (reset_decision from session cursor) made by
      (λ answer tells. inl ((reset_decision from session cursor).0, ((reset_decision from session cursor).1, refl, refl), tells))
  judges-reach (GetKey name key) left made by = finds-reach kept from session (GetKey name key) name (FindKey name key) left made by
      (λ r event is. inl (Refused r, inl (r, event, is, refl, refl), refl)) (λ table m found. found)
  judges-reach (PutKey name key value demand) left made by = finds-reach kept from session (PutKey name key value demand) name (FindToWrite name key (PutOf value)) left made by
      (λ r event is. inl (Refused r, inl (r, event, is, refl, refl), refl)) (λ table m found. found)
  judges-reach (RemoveKey name key) left made by = finds-reach kept from session (RemoveKey name key) name (FindToWrite name key RemoveOf) left made by
      (λ r event is. inl (Refused r, inl (r, event, is, refl, refl), refl)) (λ table m found. found)
  judges-reach (SeekKey cursor name key) left made by = finds-reach kept from session (SeekKey cursor name key) name (FindKey name key) left made by
      (λ r event is. inl (Refused r, inl (r, event, is, refl, refl), refl)) (λ table m found. found)
  judges-reach (NextRow cursor name way) left made by = finds-reach kept from session (NextRow cursor name way) name (FindRow name) left made by
      (λ r event is. inl (Refused r, inl (r, event, is, refl, refl), refl)) (λ table m found. found)
  judges-reach (Commit commit durable) left made by = settles-reach kept from session (Commit commit durable) (CommitCall commit durable) left made (commit-settles from session commit durable)
      (λ outcome next answer is tells. inl (outcome, is, tells)) by
  judges-reach Rollback left made by = settles-reach kept from session Rollback RollbackCall left made (rollback-settles from session) (λ outcome next answer is tells. inl (outcome, is, tells)) by
  judges-reach (Create name formats) left made by = absurd by
  judges-reach (Set oldest stable) left made by = absurd by
  judges-reach CkptStart left made by = absurd by
  judges-reach CkptStep left made by = absurd by
  judges-reach CkptFinish left made by = absurd by
  judges-reach (Evict name key) left made by = absurd by
  judges-reach Rts left made by = absurd by
  judges-reach Close left made by = absurd by

  -- a table that was found is that of the look
  found-place : (name : List ℕ) (request : Request) (table : ℕ) (m : Machine) (t : Transaction) (found : IsFound from session name request table m) → transaction_of m session ≡ Some t
      → FindsPlace (after from found.event) session name t found.of
  found-place name request table m t found there = record { transaction = ap (λ x. transaction_of x session) (sym found.machine) ∙ there; table_is = ap (λ x. named name (tables x.history)) (sym found.machine) ∙ found.found }

  found-up : (name : List ℕ) (request : Request) (table : ℕ) (m : Machine) → is_on_page from session request ≡ false → IsQuiet (decision from session request).1 → IsFound from session name request table m → m.fault ≡ None
  found-up name request table m off quiet found = ap (λ x. x.fault) found.machine ∙ (quiet-fault from found.event (subst IsQuiet (ap (λ (d : Outcome × Event). d.1) found.decided) quiet)
      ∙ up-where-done from (judged from session request) found.event (sym (let e : decision from session request ≡ while_up from (judged from session request) = rw off refl in e) ∙ found.decided))

  -- what a look at the place answers is the whole call's
  abbrev PlaceAnswers : Call → List ℕ → Request → ℕ → Type 0
  PlaceAnswers call name request table = (m : Machine) (t : Transaction) (outcome : Outcome) (event : Event) (answer : Answer (List ℕ)) → IsFound from session name request table m → transaction_of m session ≡ Some t
      → LookAnswer call m session t table outcome event → Tells outcome answer → SessionAnswers (around_kept kept) from session call answer (after m event)

  looked : (Look : Machine → Transaction → Table → Outcome → Event → Type 0) (name : List ℕ) (request : Request) (table : ℕ) (m : Machine) (t : Transaction) (outcome : Outcome) (event : Event)
      → (found : IsFound from session name request table m) → transaction_of m session ≡ Some t → Look m t found.of outcome event → AtPlace from session name request Look outcome (after m event)
  looked Look name request table m t outcome event found there look = inr (
    found.event,
    t,
    found.of,
    event,
    found.decided,
    found-place name request table m t found there,
    subst (λ x. Look x t found.of outcome event) found.machine look,
    ap (λ x. after x event) found.machine,
  )

  short : (request : Request) (name : List ℕ) (table : ℕ) (m : Machine) → IsFound from session name request table m → IsHeldUp (around_kept kept) from session request (answers.Refused told.NoMemory) m
  short request name table m found = inr (found.event, found.decided, inl (refl, found.machine))

  reading : (call : Call) (answer : Answer (List ℕ)) (event : Event) (left : ℕ) (m : Machine) (made : Made) → GoesTo (Decided answer event) left m made → m.fault ≡ None → SessionAnswers (around_kept kept) from session call answer (after m event) → ReachesOn kept from session call made
  reading call answer event left m made goes up is = going kept from session call (Decided answer event) left m made goes (λ fewer. (up, is))

  places-reach : (call : Call) (table left : ℕ) (m : Machine) (made : Made) → PlacedFrom from session call table m → Looks call m session table left made ⊎ LooksShort m left made → ReachesOn kept from session call made
  places-reach (GetKey name key) table left m made found (inl looks) = reading (GetKey name key) looks.answer looks.event left m made looks.goes (found-up name (FindKey name key) table m refl (key-quiet from session name key) found)
      (inl (
        looks.outcome,
        looked (λ n t of o event. GetAnswer n session t of.number key o × (event ≡ Nothing)) name (FindKey name key) table m looks.transaction looks.outcome looks.event found looks.there
            (subst (λ n. GetAnswer m session looks.transaction n key looks.outcome × (looks.event ≡ Nothing)) found.number looks.finds),
        looks.tells,
      ))
  places-reach (SeekKey cursor name key) table left m made found (inl looks) = reading (SeekKey cursor name key) looks.answer looks.event left m made looks.goes (found-up name (FindKey name key) table m refl (key-quiet from session name key) found)
      (inl (
        looks.outcome,
        looked (λ n t of o event. SeekAnswer n session t cursor of.number key o event) name (FindKey name key) table m looks.transaction looks.outcome looks.event found looks.there
            (subst (λ n. SeekAnswer m session looks.transaction cursor n key looks.outcome looks.event) found.number looks.finds),
        looks.tells,
      ))
  places-reach (NextRow cursor name way) table left m made found (inl looks) = reading (NextRow cursor name way) looks.answer looks.event left m made looks.goes (found-up name (FindRow name) table m refl (row-quiet from session name) found)
      (inl (
        looks.outcome,
        looked (λ n t of o event. NextAnswer n session t cursor of.number way o event) name (FindRow name) table m looks.transaction looks.outcome looks.event found looks.there
            (subst (λ n. NextAnswer m session looks.transaction cursor n way looks.outcome looks.event) found.number looks.finds),
        looks.tells,
      ))
  places-reach (PutKey name key value demand) table left m made found (inl looks) =
      let up : m.fault ≡ None = found-up name (FindToWrite name key (PutOf value)) table m refl (write-quiet from session name key (PutOf value)) found in
      reading (PutKey name key value demand) looks.answer Nothing left (after m looks.event) made looks.goes
      (write-fault m session looks.transaction table key (PutOf value) demand looks.outcome looks.event looks.finds ∙ up)
      (inl (
        looks.outcome,
        looked (λ n t of o event. WriteAnswer n session t of.number key (PutOf value) demand o event) name (FindToWrite name key (PutOf value)) table m looks.transaction looks.outcome looks.event found looks.there
            (subst (λ n. WriteAnswer m session looks.transaction n key (PutOf value) demand looks.outcome looks.event) found.number looks.finds),
        looks.tells,
      ))
  places-reach (RemoveKey name key) table left m made found (inl looks) =
      let up : m.fault ≡ None = found-up name (FindToWrite name key RemoveOf) table m refl (write-quiet from session name key RemoveOf) found in
      reading (RemoveKey name key) looks.answer Nothing left (after m looks.event) made looks.goes
      (write-fault m session looks.transaction table key RemoveOf Occupied looks.outcome looks.event looks.finds ∙ up)
      (inl (
        looks.outcome,
        looked (λ n t of o event. WriteAnswer n session t of.number key RemoveOf Occupied o event) name (FindToWrite name key RemoveOf) table m looks.transaction looks.outcome looks.event found looks.there
            (subst (λ n. WriteAnswer m session looks.transaction n key RemoveOf Occupied looks.outcome looks.event) found.number looks.finds),
        looks.tells,
      ))
  places-reach (GetKey name key) table left m made found (inr goes) = reading (GetKey name key) (answers.Refused told.NoMemory) Nothing left m made goes (found-up name (FindKey name key) table m refl (key-quiet from session name key) found)
      (inr (short (FindKey name key) name table m found))
  places-reach (SeekKey cursor name key) table left m made found (inr goes) = reading (SeekKey cursor name key) (answers.Refused told.NoMemory) Nothing left m made goes (found-up name (FindKey name key) table m refl (key-quiet from session name key) found)
      (inr (short (FindKey name key) name table m found))
  places-reach (NextRow cursor name way) table left m made found (inr goes) = reading (NextRow cursor name way) (answers.Refused told.NoMemory) Nothing left m made goes (found-up name (FindRow name) table m refl (row-quiet from session name) found)
      (inr (short (FindRow name) name table m found))
  places-reach (PutKey name key value demand) table left m made found (inr goes) = reading (PutKey name key value demand) (answers.Refused told.NoMemory) Nothing left m made goes
      (found-up name (FindToWrite name key (PutOf value)) table m refl (write-quiet from session name key (PutOf value)) found) (inr (short (FindToWrite name key (PutOf value)) name table m found))
  places-reach (RemoveKey name key) table left m made found (inr goes) = reading (RemoveKey name key) (answers.Refused told.NoMemory) Nothing left m made goes
      (found-up name (FindToWrite name key RemoveOf) table m refl (write-quiet from session name key RemoveOf) found) (inr (short (FindToWrite name key RemoveOf) name table m found))
  places-reach (Begin read) table left m made found looks = absurd found
  places-reach (Prepare stamp) table left m made found looks = absurd found
  places-reach (Reset cursor) table left m made found looks = absurd found
  places-reach (Commit commit durable) table left m made found looks = absurd found
  places-reach Rollback table left m made found looks = absurd found
  places-reach (Create name formats) table left m made found looks = absurd found
  places-reach (Set oldest stable) table left m made found looks = absurd found
  places-reach CkptStart table left m made found looks = absurd found
  places-reach CkptStep table left m made found looks = absurd found
  places-reach CkptFinish table left m made found looks = absurd found
  places-reach (Evict name key) table left m made found looks = absurd found
  places-reach Rts table left m made found looks = absurd found
  places-reach Close table left m made found looks = absurd found

pub steps-reach : StepsReach
steps-reach kept from m session call Resting made reached goes = absurd reached
steps-reach kept from m session call (Asked asked left) made reached (inl goes) = going kept from session call (Asked asked) left m made goes (λ fewer. reached)
steps-reach kept from m session call (Asked asked left) made reached (inr judges) = judges-reach kept from session call left made
    (subst (λ x. Judges call x session left made) reached.1 (subst (λ c. Judges c m session left made) reached.0 judges))
steps-reach kept from m session call (Placed asked table left) made reached (inl goes) = going kept from session call (Placed asked table) left m made goes (λ fewer. reached)
steps-reach kept from m session call (Placed asked table left) made reached (inr (inl looks)) = places-reach kept from session call table left m made reached.1 (inl (subst (λ c. Looks c m session table left made) reached.0 looks))
steps-reach kept from m session call (Placed asked table left) made reached (inr (inr (inl short))) = places-reach kept from session call table left m made reached.1 (inr short)
steps-reach kept from m session call (Placed asked table left) made reached (inr (inr (inr again))) = let never : false ≡ true = again.0 in absurd cc
steps-reach kept from m session call (Decided answer event left) made reached (inl goes) = going kept from session call (Decided answer event) left m made goes (λ fewer. reached)
steps-reach kept from m session call (Decided answer event left) made reached (inr (inl ends)) = at-end kept from session call answer (after m event) made ends reached.1
steps-reach kept from m session call (Decided answer event left) made reached (inr (inr faults)) = absurd (subst (λ o. TellsFault o left m made) reached.0 faults)
steps-reach kept from m session call (Ending answer left) made reached (inl goes) = going kept from session call (Ending answer) left m made goes (λ fewer. reached)
steps-reach kept from m session call (Ending answer left) made reached (inr ends) = by-fault m.fault refl ends where
  by-fault : (f : Option Fault) → m.fault ≡ f → EndsUnless f answer m session left made → ReachesOn kept from session call made
  by-fault None up finishes = finishing kept from session call answer left (after m (EndTransaction session)) made finishes up (reached.0 up)
  by-fault (Some fault) down ends = at-end kept from session call (answers.Refused (told.Panic fault)) m made ends (reached.1 fault down)

-- ---- a leaf that cannot be had

module _ (r : Refusal) (from : Machine) (session : ℕ) where
  held-up : (request : Request) (name : List ℕ) (table : ℕ) (m : Machine) → IsFound from session name request table m → IsHeldUp (around_kept (Some r)) from session request (answers.Refused r) m
  held-up request name table m found = inr (found.event, found.decided, inr (r, refl, refl, inl found.machine))

  keeps-out : (call : Call) (table left : ℕ) (m : Machine) (made : Made) → PlacedFrom from session call table m → GoesTo (Decided (answers.Refused r) Nothing) left m made → Reached (Some r) from session call made.doing made.machine
  keeps-out call table left m made found goes = subst (λ (x : Made). Reached (Some r) from session call x.doing x.machine) (sym goes.2) (by call found) where
    by : (c : Call) → PlacedFrom from session c table m → (m.fault ≡ None) × SessionAnswers (around_kept (Some r)) from session c (answers.Refused r) m
    by (GetKey name key) found = (found-up None from session name (FindKey name key) table m refl (key-quiet from session name key) found, inr (held-up (FindKey name key) name table m found))
    by (SeekKey cursor name key) found = (found-up None from session name (FindKey name key) table m refl (key-quiet from session name key) found, inr (held-up (FindKey name key) name table m found))
    by (NextRow cursor name way) found = (found-up None from session name (FindRow name) table m refl (row-quiet from session name) found, inr (held-up (FindRow name) name table m found))
    by (PutKey name key value demand) found =
        (found-up None from session name (FindToWrite name key (PutOf value)) table m refl (write-quiet from session name key (PutOf value)) found, inr (held-up (FindToWrite name key (PutOf value)) name table m found))
    by (RemoveKey name key) found =
        (found-up None from session name (FindToWrite name key RemoveOf) table m refl (write-quiet from session name key RemoveOf) found, inr (held-up (FindToWrite name key RemoveOf) name table m found))
    by (Begin read) found = absurd found
    by (Prepare stamp) found = absurd found
    by (Reset cursor) found = absurd found
    by (Commit commit durable) found = absurd found
    by Rollback found = absurd found
    by (Create name formats) found = absurd found
    by (Set oldest stable) found = absurd found
    by CkptStart found = absurd found
    by CkptStep found = absurd found
    by CkptFinish found = absurd found
    by (Evict name key) found = absurd found
    by Rts found = absurd found
    by Close found = absurd found

pub kept-out-reaches : KeptOutReaches
kept-out-reaches from m session call (Placed asked table left) r made reached goes = keeps-out r from session call table left m made reached.1 goes
kept-out-reaches from m session call _ r made reached goes = absurd goes
