-- The event of each decision may come.
use Rattle.std.proofs.Common.{◌≡◌, ◌⊎◌, ◌<◌, ◌≤◌, ◌+◌, ℕ, refl, ap, sym, Bool, true, false, ◌&&◌, List, [], ◌∷◌, ◌++◌, length, inl, inr, subst, arith, zero, suc, max}
use Rattle.std.specs.Prelude.{Option, Some, None, not, nat_lt, nat_le, ◌==◌, bytes_eq, slice_index_or, if◌then◌else◌}
use Rattle.std.proofs.lemmas.Bool.{cases_Bool, both_ways, eqb-true, lt-ltb, le-leb}
use Rattle.std.proofs.lemmas.Slice.Eq.{bytes_eq-Decides}
use Rattle.failure.specs.declared.Fault.{Fault}
use Rattle.limits.specs.declared.TheConstants.{SESSIONS_MAX, NUMBER_MAX, TABLES_MAX}
use Rattle.wt_code.specs.declared.refusals.Refusal.{Refusal}
use Rattle.wt_code.specs.declared.refusals.Refusal.TheVariants as told
use Rattle.wt_code.specs.declared.refusals.Invalid.{Invalid}
use Rattle.wt_code.specs.declared.refusals.Invalid.TheVariants as why
use Rattle.wt_code.specs.declared.refusals.Busy.TheVariants as who
use Rattle.wt_code.specs.declared.refusals.Limit.TheVariants as counted
use Rattle.kv_model.specs.Holds.{Member}
use Rattle.kv_model.specs.History.{Table, tables, created, named}
use Rattle.kv_model.specs.Machine.{Machine, Transaction, Phase, Running, Failed, Prepared, Resolving, Leaving, Event, OpenSession, BeginAt, DrawId, PrepareAt, CommitAt, StartLeaving, CreateTable, SetStamps, RollbackToStable, CheckpointStart, CheckpointFinish, Nothing, transaction_of, of_some}
use Rattle.kv_model.specs.Outside.{Storing, Stored, NoPlace, ReadFailed, Damaged, WriteFailed}
use Rattle.kv_model.specs.Allowed.{Allowed, StampsFit, CommitsAt}
use Rattle.kv_model.specs.Refusals.{first_of, stamp_of, or_stamp, durable_below, begin_rules, prepare_rules, commit_rules, resolve_rules, set_rules}
use Rattle.kv_model.specs.Decisions.{Outcome, Done, End, Refused, refused, invalid, checked, ruled, with_session, in_state, running_session, first_session, is_resolving, is_there, unless_found, id_drawn, create_decision, same_formats, commit_decision, rollback_decision, Request, OpenCall, BeginCall, PrepareCall, CommitCall, RollbackCall, EndCall, HistoryCall, FindKey, FindToWrite, FindRow, CreateCall, SetCall, RtsCall, StartCall, StepCall, CaptureCall, FinishCall, stored_as, left_or_end, running_checkpoint, judged, decision, key_checks, write_checks, table_checks, is_name, is_on_page, while_up}
use Rattle.kv_model.specs.DecisionLaws.{Suits}
use Rattle.kv_model.proofs.Newest.{find-none}

-- where none refuses each check passes
abbrev AllPass : {A : Type 0} → List (Bool × A) → Type 0
AllPass [] = Unit {0}
AllPass (check ∷ later) = (check.0 ≡ false) × AllPass later

all-pass : {A : Type 0} (checks : List (Bool × A)) → first_of checks ≡ None → AllPass checks
all-pass [] e = tt
all-pass (check ∷ later) e = elim (cases_Bool check.0) [
  | inl holds ↦ let f = rw holds at e in absurd (cc)
  | inr passes ↦ (passes, all-pass later (rw passes at e))
]

may-check : (m : Machine) (checks : List (Bool × Refusal)) (go : Outcome × Event) → (first_of checks ≡ None → Allowed m go.1) → Allowed m (checked checks go).1
may-check m checks go may = by (first_of checks) refl where
  by : (o : Option Refusal) → first_of checks ≡ o → Allowed m (of_some go refused (first_of checks)).1
  by None e = subst (λ o. Allowed m (of_some go refused o).1) (sym e) (may e)
  by (Some cause) e = subst (λ o. Allowed m (of_some go refused o).1) (sym e) tt

may-rule : (m : Machine) (rules : List (Bool × Invalid)) (event refusal : Event) → (first_of rules ≡ None → Allowed m event) → Allowed m refusal → Allowed m (ruled rules event refusal).1
may-rule m rules event refusal may other = by (first_of rules) may where
  by : (o : Option Invalid) → (o ≡ None → Allowed m event) → Allowed m (of_some {A = Invalid} {B = Outcome × Event} (Done, event) (λ reason. (Refused (told.Invalid reason), refusal)) o).1
  by None may = may refl
  by (Some reason) may = other

-- of an Option
may-some : {A : Type 0} (m : Machine) (b : Outcome × Event) (f : A → Outcome × Event) (o : Option A) → (o ≡ None → Allowed m b.1) → ((a : A) → o ≡ Some a → Allowed m (f a).1) → Allowed m (of_some b f o).1
may-some m b f None none some = none refl
may-some m b f (Some a) none some = some a refl

may-session : (m : Machine) (s : ℕ) (go : Transaction → Outcome × Event) → ((t : Transaction) → transaction_of m s ≡ Some t → Allowed m (go t).1) → Allowed m (with_session m s go).1
may-session m s go may = may-some m (invalid why.NoTxn) go (transaction_of m s) (λ e. tt) may

may-state : (m : Machine) (p : Phase) (go : Outcome × Event) → (p ≡ Running → Allowed m go.1) → Allowed m (in_state p go).1
may-state m Running go may = may refl
may-state m Failed go may = tt
may-state m Leaving go may = tt
may-state m (Prepared stamp) go may = tt
may-state m Resolving go may = tt

pub may-run : (m : Machine) (s : ℕ) (go : Transaction → Outcome × Event) → ((t : Transaction) → transaction_of m s ≡ Some t → t.phase ≡ Running → Allowed m (go t).1) → Allowed m (running_session m s go).1
may-run m s go may = may-session m s (λ t. in_state t.phase (go t)) (λ t there. may-state m t.phase (go t) (may t there))

not-false : (b : Bool) → not b ≡ false → b ≡ true
not-false true e = refl
not-false false e = absurd (cc)

pub lt-false : (x y : ℕ) → nat_lt x y ≡ false → y ≤ x
lt-false x y e = le (λ l. both_ways (nat_lt x y) e (lt-ltb x y l)) where
  le : (x < y → ⊥) → y ≤ x
  le f = omega (arith, f)

pub le-false : (x y : ℕ) → nat_le x y ≡ false → y < x
le-false x y e = lt (λ l. both_ways (nat_le x y) e (le-leb x y l)) where
  lt : (x ≤ y → ⊥) → y < x
  lt f = omega (arith, f)

or-false : (a b : Bool) → (not a && b) ≡ false → (a ≡ true) ⊎ (b ≡ false)
or-false true b e = inl refl
or-false false b e = inr e

may-begin : (m : Machine) (s : ℕ) (read : Option ℕ) → s < length m.sessions → transaction_of m s ≡ None → Allowed m (ruled (begin_rules m.oldest read) (BeginAt s (stamp_of read)) Nothing).1
may-begin m s read inside none = may-rule m (begin_rules m.oldest read) (BeginAt s (stamp_of read)) Nothing (λ e. (inside, none, late e)) tt where
  late : first_of (begin_rules m.oldest read) ≡ None → (stamp_of read ≡ 0) ⊎ (m.oldest ≤ stamp_of read)
  late e = let pass = all-pass (begin_rules m.oldest read) e in
      elim (or-false (stamp_of read == 0) (nat_lt (stamp_of read) m.oldest) pass.1.0) [ inl none ↦ inl (eqb-true (stamp_of read) 0 none) | inr isnt ↦ inr (lt-false (stamp_of read) m.oldest isnt) ]

may-prepare : (m : Machine) (s stamp : ℕ) (t : Transaction) → transaction_of m s ≡ Some t → t.phase ≡ Running → Allowed m (ruled (prepare_rules m.stable stamp) (PrepareAt s stamp) Nothing).1
may-prepare m s stamp t there running = may-rule m (prepare_rules m.stable stamp) (PrepareAt s stamp) Nothing (λ e.
    let pass = all-pass (prepare_rules m.stable stamp) e in ((t, there, running), le-false stamp m.stable pass.1.0)) tt

resolve-order : (m : Machine) (t : Transaction) (p : ℕ) (commit durable : Option ℕ) → first_of (resolve_rules m.oldest m.stable p commit durable (durable_below m t.writes)) ≡ None → (p ≤ stamp_of commit) × (stamp_of commit ≤ or_stamp (stamp_of durable) (stamp_of commit))
resolve-order m t p commit durable e = let pass = all-pass (resolve_rules m.oldest m.stable p commit durable (durable_below m t.writes)) e in
    (lt-false (stamp_of commit) p pass.1.1.0, lt-false (or_stamp (stamp_of durable) (stamp_of commit)) (stamp_of commit) pass.1.1.1.0)

may-commit : (m : Machine) (s : ℕ) (t : Transaction) (commit durable : Option ℕ) → transaction_of m s ≡ Some t → (p : Phase) → t.phase ≡ p → Allowed m (commit_decision p m s t commit durable).1
may-commit m s t commit durable there Running is = may-rule m (commit_rules m.oldest m.stable commit durable (durable_below m t.writes)) (CommitAt s (stamp_of commit) (stamp_of commit)) (StartLeaving s)
    (λ e. (t, there, subst (λ q. CommitsAt q (stamp_of commit) (stamp_of commit)) (sym is) refl)) tt
may-commit m s t commit durable there (Prepared p) is = may-rule m (resolve_rules m.oldest m.stable p commit durable (durable_below m t.writes)) (CommitAt s (stamp_of commit) (or_stamp (stamp_of durable) (stamp_of commit))) Nothing
    (λ e. (t, there, subst (λ q. CommitsAt q (stamp_of commit) (or_stamp (stamp_of durable) (stamp_of commit))) (sym is) (resolve-order m t p commit durable e))) tt
may-commit m s t commit durable there Failed is = tt
may-commit m s t commit durable there Resolving is = tt
may-commit m s t commit durable there Leaving is = tt

may-leave : (m : Machine) (s : ℕ) (p : Phase) → Allowed m (rollback_decision p s).1
may-leave m s Running = tt
may-leave m s Failed = tt
may-leave m s (Prepared stamp) = tt
may-leave m s Resolving = tt
may-leave m s Leaving = tt

may-draw : (m : Machine) (s : ℕ) (t : Transaction) → transaction_of m s ≡ Some t → t.phase ≡ Running → Allowed m (id_drawn m s t).1
may-draw m s t there running = elim (cases_Bool (t.id == 0)) [
  | inl none ↦ subst (λ b. Allowed m (if b then checked ((nat_lt NUMBER_MAX m.next, told.Limit counted.Ids) ∷ []) (Done, DrawId s) else (Done, Nothing)).1) (sym none)
      (may-check m ((nat_lt NUMBER_MAX m.next, told.Limit counted.Ids) ∷ []) (Done, DrawId s) (λ e. (t, there, (running, eqb-true t.id 0 none))))
  | inr has ↦ subst (λ b. Allowed m (if b then checked ((nat_lt NUMBER_MAX m.next, told.Limit counted.Ids) ∷ []) (Done, DrawId s) else (Done, Nothing)).1) (sym has) tt
]

may-create : (m : Machine) (table : Table) → ((t : Table) → Member t (created m.history) → t.number < table.number) → 0 < table.number → (o : Option Table) → named table.name (tables m.history) ≡ o → Allowed m (create_decision (tables m.history) table o).1
may-create m table above some None e = may-check m ((nat_le TABLES_MAX (length (tables m.history)), told.Limit counted.Tables) ∷ []) (Done, CreateTable table) (λ passed. (
  record {
    number = above;
    name = λ t there same. find-none (λ (u : Table). bytes_eq u.name table.name) (tables m.history) e t there ((bytes_eq-Decides t.name table.name).1 same);
  },
  some,
))
may-create m table above some (Some old) e = elim (cases_Bool (same_formats table.formats old.formats)) [ inl is ↦ rw is tt | inr isnt ↦ rw isnt tt ]

may-set : (m : Machine) (oldest stable : Option ℕ) → Allowed m (ruled (set_rules m.oldest m.stable oldest stable) (SetStamps (stamp_of oldest) (stamp_of stable)) Nothing).1
may-set m oldest stable = may-rule m (set_rules m.oldest m.stable oldest stable) (SetStamps (stamp_of oldest) (stamp_of stable)) Nothing (λ e.
    let pass = all-pass (set_rules m.oldest m.stable oldest stable) e in
    fits (max m.oldest (stamp_of oldest)) (max m.stable (stamp_of stable)) pass.1.0) tt where
      fits : (o s : ℕ) → (not (o == 0) && (not (s == 0) && nat_lt s o)) ≡ false → StampsFit o s
      fits o s e = elim (or-false (o == 0) (not (s == 0) && nat_lt s o) e) [
        | inl none ↦ inr (let z = eqb-true o 0 none in omega arith)
        | inr rest ↦ elim (or-false (s == 0) (nat_lt s o) rest) [ inl unset ↦ inl (eqb-true s 0 unset) | inr le ↦ inr (lt-false s o le) ]
      ]

-- where none is found no session passes
none-found : (test : Transaction → Bool) (at : ℕ) (sessions : List (Option Transaction)) → first_session test at sessions ≡ None → (s : ℕ) (t : Transaction) → slice_index_or sessions s None ≡ Some t → test t ≡ false
none-found test at [] e s t there = absurd (cc)
none-found test at (None ∷ later) e zero t there = absurd (cc)
none-found test at (None ∷ later) e (suc s) t there = none-found test (at + 1) later e s t there
none-found test at (Some u ∷ later) e zero t there = elim (cases_Bool (test u)) [
  | inl is ↦ let f = rw is at e in absurd (cc)
  | inr isnt ↦ let same : u ≡ t = cc in subst (λ z. test z ≡ false) same isnt
]
none-found test at (Some u ∷ later) e (suc s) t there = elim (cases_Bool (test u)) [
  | inl is ↦ let f = rw is at e in absurd (cc)
  | inr isnt ↦ none-found test (at + 1) later (rw isnt at e) s t there
]

nobody-there : (m : Machine) → first_session (λ t. true) 0 m.sessions ≡ None → (s : ℕ) → transaction_of m s ≡ None
nobody-there m e s = by (transaction_of m s) refl where
  by : (o : Option Transaction) → transaction_of m s ≡ o → transaction_of m s ≡ None
  by None is = is
  by (Some t) is = let f = none-found (λ t. true) 0 m.sessions e s t is in absurd (cc)

pub not-there : {A : Type 0} (o : Option A) → is_there o ≡ false → o ≡ None
not-there None e = refl
not-there (Some a) e = absurd (cc)

resolving-is : (p : Phase) → is_resolving p ≡ false → p ≡ Resolving → ⊥
resolving-is p e is = both_ways (is_resolving p) e (ap is_resolving is)

may-store : (m : Machine) (outcome : Outcome) (event : Event) (storing : Storing) → Allowed m event → Allowed m (stored_as storing (outcome, event)).1
may-store m outcome event Stored may = may
may-store m outcome event NoPlace may = tt
may-store m outcome event ReadFailed may = tt
may-store m outcome event (Damaged offset want found) may = tt
may-store m outcome event (WriteFailed fault) may = tt

may-judge : (m : Machine) (s : ℕ) (request : Request) → Suits m s request → Allowed m (judged m s request).1
may-judge m s OpenCall suits = may-check m ((nat_le SESSIONS_MAX (length m.sessions), told.Limit counted.Sessions) ∷ []) (Done, OpenSession) (λ e. tt)
may-judge m s (BeginCall read) suits = may-some m (ruled (begin_rules m.oldest read) (BeginAt s (stamp_of read)) Nothing) (λ (t : Transaction). invalid why.InTxn) (transaction_of m s) (may-begin m s read suits) (λ t there. tt)
may-judge m s (PrepareCall stamp) suits = may-run m s (λ t. ruled (prepare_rules m.stable stamp) (PrepareAt s stamp) Nothing) (may-prepare m s stamp)
may-judge m s (CommitCall commit durable) suits = may-session m s (λ t. commit_decision t.phase m s t commit durable) (λ t there. may-commit m s t commit durable there t.phase refl)
may-judge m s RollbackCall suits = may-session m s (λ t. rollback_decision t.phase s) (λ t there. may-leave m s t.phase)
may-judge m s (EndCall decided) suits = suits
may-judge m s HistoryCall suits = tt
may-judge m s (FindKey table key) suits = may-run m s (λ t. checked (key_checks m table key) (Done, Nothing)) (λ t there running. may-check m (key_checks m table key) (Done, Nothing) (λ e. tt))
may-judge m s (FindToWrite table key change) suits = may-run m s (λ t. checked (write_checks m table key change) (id_drawn m s t)) (λ t there running. may-check m (write_checks m table key change) (id_drawn m s t) (λ e. may-draw m s t there running))
may-judge m s (FindRow table) suits = may-run m s (λ t. checked ((not (is_name table), told.Invalid why.BadName) ∷ table_checks m table) (Done, Nothing)) (λ t there running. may-check m ((not (is_name table), told.Invalid why.BadName) ∷ table_checks m table) (Done, Nothing) (λ e. tt))
may-judge m s (CreateCall table) suits = may-check m ((not (is_name table.name), told.Invalid why.BadName) ∷ []) (create_decision (tables m.history) table (named table.name (tables m.history))) (λ e. may-create m table suits.0 suits.1 (named table.name (tables m.history)) refl)
may-judge m s (SetCall oldest stable) suits = may-set m oldest stable
may-judge m s RtsCall suits = may-some m (checked ((is_there m.checkpoint, told.Busy who.Checkpoint) ∷ (nat_le NUMBER_MAX m.rollbacks, told.Limit counted.Rollbacks) ∷ []) (Done, RollbackToStable)) (λ (r : ℕ). refused (told.Busy (who.Active r))) (first_session (λ t. true) 0 m.sessions)
    (λ none. may-check m ((is_there m.checkpoint, told.Busy who.Checkpoint) ∷ (nat_le NUMBER_MAX m.rollbacks, told.Limit counted.Rollbacks) ∷ []) (Done, RollbackToStable)
    (λ e. (nobody-there m none, not-there m.checkpoint (all-pass ((is_there m.checkpoint, told.Busy who.Checkpoint) ∷ (nat_le NUMBER_MAX m.rollbacks, told.Limit counted.Rollbacks) ∷ []) e).0)))
    (λ r found. tt)
may-judge m s (StartCall number) suits = may-check m ((is_there m.checkpoint, told.Busy who.Checkpoint) ∷ []) (unless_found (first_session (λ t. is_resolving t.phase) 0 m.sessions) who.Resolving (checked ((nat_le NUMBER_MAX number, told.Limit counted.Checkpoints) ∷ []) (Done, CheckpointStart)))
    (λ e. may-some m (checked ((nat_le NUMBER_MAX number, told.Limit counted.Checkpoints) ∷ []) (Done, CheckpointStart)) (λ (r : ℕ). refused (told.Busy (who.Resolving r))) (first_session (λ t. is_resolving t.phase) 0 m.sessions)
    (λ none. may-check m ((nat_le NUMBER_MAX number, told.Limit counted.Checkpoints) ∷ []) (Done, CheckpointStart) (λ few. (
      not-there m.checkpoint (all-pass ((is_there m.checkpoint, told.Busy who.Checkpoint) ∷ []) e).0,
      λ r t there is. resolving-is t.phase (none-found (λ t. is_resolving t.phase) 0 m.sessions none r t there) is,
    )))
    (λ r found. tt))
may-judge m s (StepCall left) suits = may-check m (running_checkpoint m) (if left then Done else End, Nothing) (λ e. tt)
may-judge m s (CaptureCall left storing) suits = may-check m (running_checkpoint m) (stored_as storing (left_or_end left, Nothing)) (λ e. may-store m (left_or_end left) Nothing storing tt)
may-judge m s (FinishCall left storing) suits = may-check m (running_checkpoint m ++ (left, told.Invalid why.CkptLeft) ∷ []) (stored_as storing (Done, CheckpointFinish)) (λ e. may-store m Done CheckpointFinish storing tt)

pub may-decide : (m : Machine) (s : ℕ) (request : Request) → Suits m s request → Allowed m (decision m s request).1
may-decide m s request suits = elim (cases_Bool (is_on_page m s request)) [
  | inl on ↦ subst (λ b. Allowed m (if b then judged m s request else while_up m (judged m s request)).1) (sym on) (may-judge m s request suits)
  | inr off ↦ subst (λ b. Allowed m (if b then judged m s request else while_up m (judged m s request)).1) (sym off)
      (may-some m (judged m s request) (λ (fault : Fault). refused (told.Panic fault)) m.fault (λ e. may-judge m s request suits) (λ fault e. tt))
]
