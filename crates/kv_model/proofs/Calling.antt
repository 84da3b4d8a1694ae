-- What whole calls leave of a valid machine.
use Rattle.std.proofs.Common.{◌≡◌, ◌<◌, ◌≤◌, ℕ, refl, ap, sym, ◌∙◌, Bool, true, false, List, [], ◌∷◌, length, inl, inr, subst, arith, zero, suc}
use Rattle.std.specs.Prelude.{Option, Some, None, nat_lt, ◌==◌, bytes_eq, slice_index_or, slice_set, option_map, MatchBool, if◌then◌else◌, not}
use Rattle.std.proofs.lemmas.Bool.{cases_Bool, or_left, or_right, eq-eqb, ltb-true}
use Rattle.std.proofs.lemmas.List.{get_or-set_same}
use Rattle.limits.specs.declared.TheConstants.{NUMBER_MAX}
use Rattle.item.specs.declared.Change.{Change}
use Rattle.item.specs.declared.Change.TheVariants.{Put as PutOf, Remove as RemoveOf}
use Rattle.failure.specs.declared.Fault.{Fault}
use Rattle.wt_code.specs.declared.answers.Answer.{Answer}
use Rattle.wt_code.specs.declared.answers.Answer.TheVariants.{Refused as Not}
use Rattle.wt_code.specs.declared.refusals.Refusal.{Refusal}
use Rattle.wt_code.specs.declared.refusals.Refusal.TheVariants.{Invalid as NotValid}
use Rattle.wt_code.specs.declared.refusals.Refusal.TheVariants as told
use Rattle.wt_code.specs.declared.refusals.Invalid.TheVariants.{InCall}
use Rattle.wt_code.specs.declared.refusals.Invalid.{Invalid}
use Rattle.wt_code.specs.declared.refusals.Invalid.TheVariants as why
use Rattle.wt_code.specs.declared.refusals.Limit.TheVariants as counted
use Rattle.kv_model.specs.History.{Table, tables, named, has_table}
use Rattle.kv_model.specs.Machine.{Machine, Transaction, Phase, Running, Failed, Prepared, Resolving, Leaving, Event, DrawId, BeginAt, StartLeaving, CommitAt, EndTransaction, PlaceCursor, GoDown, Nothing, transaction_of, of_some, begun, after}
use Rattle.kv_model.specs.Outside.{Storing}
use Rattle.kv_model.specs.Allowed.{Allowed}
use Rattle.kv_model.specs.Refusals.{first_of, stamp_of, begin_rules}
use Rattle.kv_model.specs.Decisions.{PrepareCall, Occupied, Outcome, Done, Gives, GivesRow, Refused, Demand, Request, BeginCall, CommitCall, RollbackCall, EndCall, FindKey, FindToWrite, FindRow, CreateCall, SetCall, RtsCall, StartCall, StepCall, CaptureCall, FinishCall, OpenCall, WriteAnswer, GetAnswer, refused, invalid, checked, in_state, running_session, while_up, judged, decision, id_drawn, key_checks, write_checks, table_checks, is_name}
use Rattle.kv_model.specs.DecisionLaws.{Suits, EachMayCome}
use Rattle.kv_model.specs.Closing.{rolling_back, after_all}
use Rattle.kv_model.specs.Rows.{NextAnswer, SeekAnswer, seek_event, row_event}
use Rattle.kv_model.specs.Calls.{Actor, Session, System, Call, Begin, GetKey, PutKey, RemoveKey, SeekKey, NextRow, Reset, Prepare, Commit, Rollback, Create, Set, CkptStart, CkptStep, CkptFinish, Evict, Rts, Close, Around, Judged, Settled, settled, ended, AtPlace, Decided, IsHeldUp, HeldUp, IsKeptOut, IsShort, SystemJudged, SystemAnswers, IsTaken, ActorAnswers, Answers}
use Rattle.kv_model.specs.CallLaws.{WritesMayCome, SeeksMayCome, RowsMayCome, ResetsMayCome, any_around, CallsKeepValid, OpeningsKeepValid}
use Rattle.kv_model.specs.Valid.{Valid}
use Rattle.kv_model.proofs.Seats.{seat-inside}
use Rattle.kv_model.proofs.Beginning.{valid-end, drawing}
use Rattle.kv_model.proofs.EveryEvent.{valid-after}
use Rattle.kv_model.proofs.Deciding.{may-decide, may-run, lt-false}
use Rattle.kv_model.proofs.Closes.{may-close, may-roll, idle-close}

-- ---- events of calls may come

pub writes-may : WritesMayCome
writes-may m s t table key change demand Done event there running drawn has w = subst (Allowed m) (sym w.2) (t, there, (running, drawn, w.0, has))
writes-may m s t table key change demand (Refused (told.Rollback run id)) event there running drawn has w = subst (Allowed m) (sym w.1) (t, there, running)
writes-may m s t table key change demand (Refused refusal) event there running drawn has w = subst (Allowed m) (sym w.2) tt
writes-may m s t table key change demand outcome event there running drawn has w = absurd w

seek-may : (m : Machine) (s : ℕ) (t : Transaction) (cursor table : ℕ) (key : List ℕ) (outcome : Outcome) → transaction_of m s ≡ Some t → t.phase ≡ Running → Allowed m (seek_event s cursor table key outcome)
seek-may m s t cursor table key (Gives v) there running = (t, there, running)
seek-may m s t cursor table key (Refused told.NotFound) there running = (t, there, running)
seek-may m s t cursor table key outcome there running = tt

pub seeks-may : SeeksMayCome
seeks-may m s t cursor table key outcome event there running answer = subst (Allowed m) (sym answer.1) (seek-may m s t cursor table key outcome there running)

row-may : (m : Machine) (s : ℕ) (t : Transaction) (cursor table : ℕ) (outcome : Outcome) → transaction_of m s ≡ Some t → t.phase ≡ Running → Allowed m (row_event s cursor table outcome)
row-may m s t cursor table (GivesRow key v) there running = (t, there, running)
row-may m s t cursor table (Refused told.NotFound) there running = (t, there, running)
row-may m s t cursor table outcome there running = tt

pub rows-may : RowsMayCome
rows-may m s t cursor table way outcome event there running answer = subst (Allowed m) (sym answer.1) (row-may m s t cursor table outcome there running)

pub resets-may : ResetsMayCome
resets-may m s cursor = may-run m s (λ t. (Done, PlaceCursor s cursor None)) (λ t there running. (t, there, running))

-- ---- what a decision that goes on tells

up-goes : (m : Machine) (d : Outcome × Event) (e : Event) → while_up m d ≡ (Done, e) → d ≡ (Done, e)
up-goes m d e is = by m.fault is where
  by : (o : Option Fault) → of_some d (λ fault. refused (told.Panic fault)) o ≡ (Done, e) → d ≡ (Done, e)
  by None is = is
  by (Some fault) is = let f = ap (λ (p : Outcome × Event). p.0) is in absurd (cc)

check-goes : (checks : List (Bool × Refusal)) (go : Outcome × Event) (e : Event) → checked checks go ≡ (Done, e) → go ≡ (Done, e)
check-goes checks go e is = by (first_of checks) is where
  by : (o : Option Refusal) → of_some go refused o ≡ (Done, e) → go ≡ (Done, e)
  by None is = is
  by (Some r) is = let f = ap (λ (p : Outcome × Event). p.0) is in absurd (cc)

-- the session's transaction runs
record Runs (m : Machine) (s : ℕ) (go : Transaction → Outcome × Event) (e : Event) : Type 0 where
  transaction : Transaction
  there : transaction_of m s ≡ Some transaction
  running : transaction.phase ≡ Running
  goes : go transaction ≡ (Done, e)

session-goes : (m : Machine) (s : ℕ) (go : Transaction → Outcome × Event) (e : Event) → running_session m s go ≡ (Done, e) → Runs m s go e
session-goes m s go e is = by (transaction_of m s) refl is where
  phase : (t : Transaction) → transaction_of m s ≡ Some t → (p : Phase) → t.phase ≡ p → in_state p (go t) ≡ (Done, e) → Runs m s go e
  phase t there Running is goes = record { transaction = t; there = there; running = is; goes = goes }
  phase t there Failed is goes = let f = ap (λ (p : Outcome × Event). p.0) goes in absurd (cc)
  phase t there Leaving is goes = let f = ap (λ (p : Outcome × Event). p.0) goes in absurd (cc)
  phase t there (Prepared stamp) is goes = let f = ap (λ (p : Outcome × Event). p.0) goes in absurd (cc)
  phase t there Resolving is goes = let f = ap (λ (p : Outcome × Event). p.0) goes in absurd (cc)

  by : (o : Option Transaction) → transaction_of m s ≡ o → of_some (invalid why.NoTxn) (λ t. in_state t.phase (go t)) o ≡ (Done, e) → Runs m s go e
  by None there goes = let f = ap (λ (p : Outcome × Event). p.0) goes in absurd (cc)
  by (Some t) there goes = phase t there t.phase refl goes

-- after the event that found the place: the transaction runs
record Looking (m : Machine) (s : ℕ) : Type 0 where
  transaction : Transaction
  there : transaction_of m s ≡ Some transaction
  running : transaction.phase ≡ Running

looking : (m : Machine) (s : ℕ) (checks : List (Bool × Refusal)) (e : Event) → while_up m (running_session m s (λ t. checked checks (Done, Nothing))) ≡ (Done, e) → Looking (after m e) s
looking m s checks e is =
    let r = session-goes m s (λ t. checked checks (Done, Nothing)) e (up-goes m (running_session m s (λ t. checked checks (Done, Nothing))) e is) in
    let same : Nothing ≡ e = ap (λ (p : Outcome × Event). p.1) (check-goes checks (Done, Nothing) e r.goes) in
    subst (λ x. Looking (after m x) s) same (record { transaction = r.transaction; there = r.there; running = r.running })

-- and, of a write, has an id
record Writing (m : Machine) (s : ℕ) : Type 0 where
  transaction : Transaction
  there : transaction_of m s ≡ Some transaction
  running : transaction.phase ≡ Running
  drawn : 0 < transaction.id

writing : (m : Machine) (s : ℕ) (name key : List ℕ) (change : Change) (e : Event) → Valid m → decision m s (FindToWrite name key change) ≡ (Done, e) → Writing (after m e) s
writing m s name key change e v is = elim (cases_Bool (t.id == 0)) [
  | inl none ↦ let draws = subst (λ b. (if b then checked ((nat_lt NUMBER_MAX m.next, told.Limit counted.Ids) ∷ []) (Done, DrawId s) else (Done, Nothing)) ≡ (Done, e)) none drew in
      let same : DrawId s ≡ e = ap (λ (p : Outcome × Event). p.1) (check-goes ((nat_lt NUMBER_MAX m.next, told.Limit counted.Ids) ∷ []) (Done, DrawId s) e draws) in
      subst (λ x. Writing (after m x) s) same (record {
        transaction = drawing m.next t;
        there = ap (λ o. slice_index_or (slice_set m.sessions s (option_map (drawing m.next) o)) s None) r.there ∙ get_or-set_same m.sessions s (Some (drawing m.next t)) None (seat-inside m.sessions s t r.there);
        running = r.running;
        drawn = v.next;
      })
  | inr has ↦ let keeps = subst (λ b. (if b then checked ((nat_lt NUMBER_MAX m.next, told.Limit counted.Ids) ∷ []) (Done, DrawId s) else (Done, Nothing)) ≡ (Done, e)) has drew in
      let same : Nothing ≡ e = ap (λ (p : Outcome × Event). p.1) keeps in
      subst (λ x. Writing (after m x) s) same (record {
        transaction = t;
        there = r.there;
        running = r.running;
        drawn = some t.id has;
      })
] where
  r : Runs m s (λ t. checked (write_checks m name key change) (id_drawn m s t)) e
  r = session-goes m s (λ t. checked (write_checks m name key change) (id_drawn m s t)) e (up-goes m (running_session m s (λ t. checked (write_checks m name key change) (id_drawn m s t))) e is)

  t : Transaction
  t = r.transaction

  drew : id_drawn m s r.transaction ≡ (Done, e)
  drew = check-goes (write_checks m name key change) (id_drawn m s r.transaction) e r.goes

  some : (n : ℕ) → (n == 0) ≡ false → 0 < n
  some zero e = absurd (cc)
  some (suc n) e = omega arith

-- the table of a name is there
named-has : (name : List ℕ) (known : List Table) (table : Table) → named name known ≡ Some table → has_table known table.number ≡ true
named-has name [] table e = absurd (cc)
named-has name (t ∷ known) table e = elim (cases_Bool (bytes_eq t.name name)) [
  | inl is ↦ let first = rw is at e in let same : t ≡ table = cc in or_left (t.number == table.number) (has_table known table.number) (eq-eqb t.number table.number (ap (λ (x : Table). x.number) same))
  | inr isnt ↦ or_right (t.number == table.number) (has_table known table.number) (named-has name known table (rw isnt at e))
]

-- ---- what parts of calls leave

judged-valid : (m : Machine) (s : ℕ) (request : Request) (outcome : Outcome) (e : Event) → Valid m → Suits m s request → decision m s request ≡ (outcome, e) → Valid (after m e)
judged-valid m s request outcome e v suits is = valid-after m e v (subst (λ (d : Outcome × Event). Allowed m d.1) is (may-decide m s request suits))

judges-valid : (m : Machine) (s : ℕ) (request : Request) (outcome : Outcome) (next : Machine) → Valid m → Suits m s request → Judged m s request outcome next → Valid next
judges-valid m s request outcome next v suits j = subst Valid (sym j.2) (judged-valid m s request outcome j.0 v suits j.1)

set-past : {A : Type 0} (xs : List A) (s : ℕ) (x : A) → length xs ≤ s → slice_set xs s x ≡ xs
set-past [] s x le = refl
set-past (y ∷ ys) zero x le = absurd (omega arith)
set-past (y ∷ ys) (suc s) x le = ap (λ l. y ∷ l) (set-past ys s x (omega arith))

-- a session that is not open has no seat to begin at
begins-past : (m : Machine) (s : ℕ) (read : Option ℕ) → Valid m → length m.sessions ≤ s → Valid (after m (decision m s (BeginCall read)).1)
begins-past m s read v past = by-fault m.fault where
  by-rule : (o : Option Invalid) → Valid (after m (of_some {A = Invalid} {B = Outcome × Event} (Done, BeginAt s (stamp_of read)) (λ reason. (Refused (told.Invalid reason), Nothing)) o).1)
  by-rule None = subst (λ l. Valid (record m { sessions = l })) (sym (set-past m.sessions s (Some (begun m (stamp_of read))) past)) v
  by-rule (Some reason) = v

  by-session : (o : Option Transaction) → Valid (after m (of_some (of_some {A = Invalid} {B = Outcome × Event} (Done, BeginAt s (stamp_of read)) (λ reason. (Refused (told.Invalid reason), Nothing)) (first_of (begin_rules m.oldest read))) (λ t. invalid why.InTxn) o).1)
  by-session None = by-rule (first_of (begin_rules m.oldest read))
  by-session (Some t) = v

  by-fault : (o : Option Fault) → Valid (after m (of_some (judged m s (BeginCall read)) (λ fault. refused (told.Panic fault)) o).1)
  by-fault None = by-session (transaction_of m s)
  by-fault (Some fault) = v

begins-valid : (m : Machine) (s : ℕ) (read : Option ℕ) (outcome : Outcome) (next : Machine) → Valid m → Judged m s (BeginCall read) outcome next → Valid next
begins-valid m s read outcome next v j = elim (cases_Bool (nat_lt s (length m.sessions))) [
  | inl inside ↦ judges-valid m s (BeginCall read) outcome next v (ltb-true s (length m.sessions) inside) j
  | inr past ↦ subst Valid (sym j.2) (subst (λ (d : Outcome × Event). Valid (after m d.1)) j.1 (begins-past m s read v (lt-false s (length m.sessions) past)))
]

ends-valid : (m : Machine) (s : ℕ) (outcome : Outcome) → Valid m → Valid (ended m s outcome).1
ends-valid m s outcome v = by (transaction_of m s) refl where
  up : (t : Transaction) → transaction_of m s ≡ Some t → (o : Option Fault) → Valid (after m (of_some {A = Fault} {B = Outcome × Event} (outcome, EndTransaction s) (λ fault. refused (told.Panic fault)) o).1)
  up t there None = valid-end m s t v there
  up t there (Some fault) = v

  by : (o : Option Transaction) → transaction_of m s ≡ o → Valid (of_some {A = Transaction} {B = Outcome × Machine} (outcome, m) (λ t. let last = decision m s (EndCall outcome) in (last.0, after m last.1)) o).1
  by None there = v
  by (Some t) there = up t there m.fault

settled-valid : (m : Machine) (s : ℕ) (outcome : Outcome) (e : Event) → Valid (after m e) → Valid (settled m s outcome e).1
settled-valid m s outcome (StartLeaving r) v = ends-valid (after m (StartLeaving r)) s outcome v
settled-valid m s outcome (CommitAt r commit durable) v = ends-valid (after m (CommitAt r commit durable)) s outcome v
settled-valid m s outcome e v = v

settles-valid : (m : Machine) (s : ℕ) (request : Request) (outcome : Outcome) (next : Machine) → Valid m → Suits m s request → Settled m s request outcome next → Valid next
settles-valid m s request outcome next v suits is = subst Valid (ap (λ (p : Outcome × Machine). p.1) is)
    (settled-valid m s (decision m s request).0 (decision m s request).1 (judged-valid m s request (decision m s request).0 (decision m s request).1 v suits refl))

-- a call that finds its place, by what its looks leave
place-valid : (m : Machine) (s : ℕ) (name : List ℕ) (request : Request) (Looks : Machine → Transaction → Table → Outcome → Event → Type 0) (outcome : Outcome) (next : Machine) → Valid m → Suits m s request
    → ((e : Event) (t : Transaction) (table : Table) (event : Event) → decision m s request ≡ (Done, e) → transaction_of (after m e) s ≡ Some t → has_table (tables (after m e).history) table.number ≡ true → Looks (after m e) t table outcome event → Allowed (after m e) event)
    → AtPlace m s name request Looks outcome next → Valid next
place-valid m s name request Looks outcome next v suits may (inl refuses) = subst Valid (sym refuses.4) v
place-valid m s name request Looks outcome next v suits may (inr (e, t, table, event, is, finds, looks, left)) =
    subst Valid (sym left) (valid-after (after m e) event (judged-valid m s request Done e v suits is)
    (may e t table event is finds.transaction (named-has name (tables (after m e).history) table finds.table_is) looks))

same-runs : (m : Machine) (s : ℕ) (t : Transaction) → Looking m s → transaction_of m s ≡ Some t → t.phase ≡ Running
same-runs m s t l there = let both : Some l.transaction ≡ Some t = sym l.there ∙ there in let same : l.transaction ≡ t = cc in subst (λ (x : Transaction). x.phase ≡ Running) same l.running

same-writes : (m : Machine) (s : ℕ) (t : Transaction) → Writing m s → transaction_of m s ≡ Some t → (t.phase ≡ Running) × (0 < t.id)
same-writes m s t w there = let both : Some w.transaction ≡ Some t = sym w.there ∙ there in let same : w.transaction ≡ t = cc in
    (subst (λ (x : Transaction). x.phase ≡ Running) same w.running, subst (λ (x : Transaction). 0 < x.id) same w.drawn)

write-valid : (m : Machine) (s : ℕ) (name key : List ℕ) (change : Change) (demand : Demand) (outcome : Outcome) (next : Machine) → Valid m
    → AtPlace m s name (FindToWrite name key change) (λ n t table o event. WriteAnswer n s t table.number key change demand o event) outcome next → Valid next
write-valid m s name key change demand outcome next v = place-valid m s name (FindToWrite name key change) (λ n t table o event. WriteAnswer n s t table.number key change demand o event) outcome next v tt
    (λ e t table event is there has looks. let w = same-writes (after m e) s t (writing m s name key change e v is) there in
    writes-may (after m e) s t table.number key change demand outcome event there w.0 w.1 has looks)

decided-valid : (m : Machine) (s : ℕ) (call : Call) (outcome : Outcome) (next : Machine) → Valid m → Decided m s call outcome next → Valid next
decided-valid m s (Begin read) outcome next v d = begins-valid m s read outcome next v d
decided-valid m s (Prepare stamp) outcome next v d = judges-valid m s (PrepareCall stamp) outcome next v tt d
decided-valid m s (Commit commit durable) outcome next v d = settles-valid m s (CommitCall commit durable) outcome next v tt d
decided-valid m s Rollback outcome next v d = settles-valid m s RollbackCall outcome next v tt d
decided-valid m s (Reset cursor) outcome next v d = subst Valid (sym d.2) (valid-after m d.0 v (subst (λ (x : Outcome × Event). Allowed m x.1) d.1 (resets-may m s cursor)))
decided-valid m s (GetKey name key) outcome next v d = place-valid m s name (FindKey name key) (λ n t table o event. GetAnswer n s t table.number key o × (event ≡ Nothing)) outcome next v tt
    (λ e t table event is there has looks. subst (Allowed (after m e)) (sym looks.1) tt) d
decided-valid m s (SeekKey cursor name key) outcome next v d = place-valid m s name (FindKey name key) (λ n t table o event. SeekAnswer n s t cursor table.number key o event) outcome next v tt
    (λ e t table event is there has looks. seeks-may (after m e) s t cursor table.number key outcome event there (same-runs (after m e) s t (looking m s (key_checks m name key) e is) there) looks) d
decided-valid m s (NextRow cursor name way) outcome next v d = place-valid m s name (FindRow name) (λ n t table o event. NextAnswer n s t cursor table.number way o event) outcome next v tt
    (λ e t table event is there has looks. rows-may (after m e) s t cursor table.number way outcome event there (same-runs (after m e) s t (looking m s ((not (is_name name), told.Invalid why.BadName) ∷ table_checks m name) e is) there) looks) d
decided-valid m s (PutKey name key value demand) outcome next v d = write-valid m s name key (PutOf value) demand outcome next v d
decided-valid m s (RemoveKey name key) outcome next v d = write-valid m s name key RemoveOf Occupied outcome next v d
decided-valid m s call outcome next v d = absurd d

short-valid : (m : Machine) (answer : Answer (List ℕ)) (next : Machine) → Valid m → IsShort m answer next → Valid next
short-valid m answer next v is = subst Valid (sym is.1) v

kept-out-valid : (a : Around) (m : Machine) (answer : Answer (List ℕ)) (next : Machine) → Valid m → IsKeptOut a m answer next → Valid next
kept-out-valid a m answer next v (r, may, is, left) = elim left [
  | inl same ↦ subst Valid (sym same) v
  | inr down ↦ subst Valid (sym down.1.1) (valid-after m (GoDown down.1.0) v tt)
]

held-up-valid : (a : Around) (m : Machine) (s : ℕ) (request : Request) (answer : Answer (List ℕ)) (next : Machine) → Valid m → Suits m s request → IsHeldUp a m s request answer next → Valid next
held-up-valid a m s request answer next v suits (inl short) = short-valid m answer next v short
held-up-valid a m s request answer next v suits (inr (e, is, how)) = let n = judged-valid m s request Done e v suits is in
    elim how [ inl short ↦ short-valid (after m e) answer next n short | inr out ↦ kept-out-valid a (after m e) answer next n out ]

held-valid : (a : Around) (m : Machine) (s : ℕ) (call : Call) (answer : Answer (List ℕ)) (next : Machine) → Valid m → HeldUp a m s call answer next → Valid next
held-valid a m s (GetKey name key) answer next v h = held-up-valid a m s (FindKey name key) answer next v tt h
held-valid a m s (SeekKey cursor name key) answer next v h = held-up-valid a m s (FindKey name key) answer next v tt h
held-valid a m s (NextRow cursor name way) answer next v h = held-up-valid a m s (FindRow name) answer next v tt h
held-valid a m s (PutKey name key value demand) answer next v h = held-up-valid a m s (FindToWrite name key (PutOf value)) answer next v tt h
held-valid a m s (RemoveKey name key) answer next v h = held-up-valid a m s (FindToWrite name key RemoveOf) answer next v tt h
held-valid a m s call answer next v h = absurd h

-- ---- the calls of the system

system-valid : (m : Machine) (request : Request) (answer : Answer (List ℕ)) (next : Machine) → Valid m → Suits m 0 request → SystemJudged m request answer next → Valid next
system-valid m request answer next v suits (outcome, j, tells) = judges-valid m 0 request outcome next v suits j

all-valid : (m : Machine) (events : List Event) → Valid m → EachMayCome m events → Valid (after_all m events)
all-valid m [] v may = v
all-valid m (e ∷ later) v may = all-valid (after m e) later (valid-after m e v may.0) may.1

step-valid : (a : Around) (m : Machine) (answer : Answer (List ℕ)) (next : Machine) → Valid m → SystemAnswers a m CkptStep answer next → Valid next
step-valid a m answer next v (inl short) = short-valid m answer next v short
step-valid a m answer next v (inr (inl out)) = kept-out-valid a m answer next v out
step-valid a m answer next v (inr (inr is)) = by (nat_lt 0 a.uncaptured) is where
  by : (b : Bool) → MatchBool b
      ((storing : Storing) × IsTaken a m (λ s. decision m 0 (CaptureCall (nat_lt 1 a.uncaptured) s)) storing × SystemJudged m (CaptureCall (nat_lt 1 a.uncaptured) storing) answer next)
      (SystemJudged m (StepCall (nat_lt 0 a.uncaptured)) answer next) → Valid next
  by true some = system-valid m (CaptureCall (nat_lt 1 a.uncaptured) some.0) answer next v tt some.2
  by false none = system-valid m (StepCall (nat_lt 0 a.uncaptured)) answer next v tt none

actor-valid : (a : Around) (m : Machine) (call : Call) (answer : Answer (List ℕ)) (next : Machine) → Valid m → SystemAnswers a m call answer next → Valid next
actor-valid a m (Create name formats) answer next v (inl short) = short-valid m answer next v short
actor-valid a m (Create name formats) answer next v (inr (table, is, j)) = system-valid m (CreateCall table) answer next v is.2 j
actor-valid a m (Set oldest stable) answer next v j = system-valid m (SetCall oldest stable) answer next v tt j
actor-valid a m Rts answer next v (inl short) = short-valid m answer next v short
actor-valid a m Rts answer next v (inr j) = system-valid m RtsCall answer next v tt j
actor-valid a m CkptStart answer next v (inl short) = short-valid m answer next v short
actor-valid a m CkptStart answer next v (inr (number, is, j)) = system-valid m (StartCall number) answer next v tt j
actor-valid a m CkptStep answer next v j = step-valid a m answer next v j
actor-valid a m CkptFinish answer next v (inl short) = short-valid m answer next v short
actor-valid a m CkptFinish answer next v (inr (storing, taken, j)) = system-valid m (FinishCall (nat_lt 0 a.uncaptured) storing) answer next v tt j
actor-valid a m (Evict name key) answer next v (inl short) = short-valid m answer next v short
actor-valid a m (Evict name key) answer next v (inr (inl out)) = kept-out-valid a m answer next v out
actor-valid a m (Evict name key) answer next v (inr (inr is)) = subst Valid (sym is.3) v
actor-valid a m Close answer next v (inl short) = subst Valid (sym short.left) (all-valid m (rolling_back 0 m.sessions) v (may-roll m (idle-close m a.unfinished short.idle)))
actor-valid a m Close answer next v (inr (number, storing, outcome, events, is, taken, decides, tells, left)) =
    subst Valid (sym left) (all-valid m events v (subst (λ (d : Outcome × List Event). EachMayCome m d.1) decides (may-close m a.unfinished number storing)))
actor-valid a m call answer next v j = absurd j

-- ---- any call

pub answers-valid : (a : Around) (m : Machine) (actor : Actor) (call : Call) (answer : Answer (List ℕ)) (next : Machine) → Valid m → Answers a m actor call answer next → Valid next
answers-valid a m actor call answer next v is = by a.in_call is where
  whole : (actor : Actor) → ActorAnswers a m actor call answer next → Valid next
  whole (Session s) (inl (outcome, decides, tells)) = decided-valid m s call outcome next v decides
  whole (Session s) (inr held) = held-valid a m s call answer next v held
  whole (System number) is = actor-valid a m call answer next v is

  by : (b : Bool) → MatchBool b ((answer ≡ Not (NotValid InCall)) × (next ≡ m)) (ActorAnswers a m actor call answer next) → Valid next
  by true busy = subst Valid (sym busy.1) v
  by false is = whole actor is

pub calls-valid : CallsKeepValid
calls-valid in_call unfinished uncaptured m actor call answer next v is = answers-valid (any_around in_call unfinished uncaptured) m actor call answer next v is

pub openings-valid : OpeningsKeepValid
openings-valid m answer next v (inl short) = short-valid m answer next v short
openings-valid m answer next v (inr j) = system-valid m OpenCall answer next v tt j
