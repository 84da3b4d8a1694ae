-- A read whose table is named by its number: what is decided of it before its leaf is sought.
use Rattle.std.proofs.Common.{◌≡◌, ◌⊎◌, ℕ, refl, ap, sym, ◌∙◌, Bool, true, false, ◌&&◌, List, [], ◌∷◌, length, inl, inr, subst}
use Rattle.std.specs.Prelude.{Option, Some, None, ◌==◌, bytes_eq, nat_lt, slice_get, if◌then◌else◌}
use Rattle.std.specs.List.{AllByRecursion}
use Rattle.std.proofs.lemmas.Bool.{both_ways, cases_Bool}
use Rattle.std.proofs.lemmas.Option.{none-some, same_Some}
use Rattle.failure.specs.declared.Fault.{Fault}
use Rattle.limits.specs.declared.TheConstants.{KEY_MAX, VALUE_MAX, NUMBER_MAX}
use Rattle.wt_code.specs.declared.answers.Answer.{Answer}
use Rattle.wt_code.specs.declared.answers.Answer.TheVariants as answers
use Rattle.wt_code.specs.declared.refusals.Refusal.{Refusal}
use Rattle.wt_code.specs.declared.refusals.Refusal.TheVariants as told
use Rattle.wt_code.specs.declared.refusals.Invalid.{Invalid}
use Rattle.wt_code.specs.declared.refusals.Invalid.TheVariants as why
use Rattle.kv_model.specs.Calls.{Call, SessionAnswers}
use Rattle.kv_model.specs.Decisions.{Outcome, Done, decision, in_state, invalid, is_name, refused}
use Rattle.kv_model.specs.History.{Table, has_table, named, tables}
use Rattle.kv_model.specs.Machine.{Transaction, Phase as ModelPhase, Running, Failed, Prepared, Resolving, Leaving, Event, Nothing, transaction_of}
use Rattle.kv_model.specs.Refusals.{first_of}
use Rattle.catalog.proofs.Turning.{turn_named}
use Rattle.leaf_chains.proofs.Changes.{same_key}
use Rattle.tree_dir.specs.declared.leaf.Leaf.{Leaf}
use Rattle.txn_table.specs.declared.phase.Phase.{Phase}
use Rattle.txn_table.specs.declared.phase.Phase.TheVariants as phase
use Rattle.txn_table.specs.SessionData.{phase_in}
use Rattle.txn_table.specs.Tabled.{phase_of}
use Rattle.call_steps.specs.declared.stage.KeyCall.{KeyCall}
use Rattle.call_steps.specs.declared.stage.Stage.TheVariants as stage
use Rattle.call_steps.specs.HubEvents.{item_checks, known_phase}
use Rattle.call_steps.specs.Lengths.{length_checks}
use Rattle.call_steps.specs.Stages.{is_write}
use Rattle.call_steps.specs.State.{State}
use Rattle.call_steps.specs.Tables.{leaf_sought, sought}
use Rattle.engine_world.specs.Stages.{NamesOnly}
use Rattle.engine_world.specs.Stands.{Engine, SessionStands, Stands}
use Rattle.engine_world.specs.Whole.{nothing_around}
use Rattle.engine_world.specs.Worlds.{World, Doing, Resting, Asked, Placed, Decided, Ending, doing_of}
use Rattle.engine_world.proofs.FindChecks.{NotThere, StandsAt, checked_then, checks-agree, draw_by, find-name, judged-as, judged_in, named_by, named_then, off-page, request_in}
use Rattle.engine_world.proofs.HubMoves.{decided-down, decided-up, idle-none, in-phase, none-there, phase-there}
use Rattle.engine_world.proofs.OnePiece.{table-there}
use Rattle.engine_world.proofs.WalkKeys.{sought-there}
use Rattle.engine.specs.Closes.{is_at_work, is_under_way}
use Rattle.engine.specs.Reads.{IsNameOf, long_key, refused_first, refused_idle, refused_up}
use Rattle.engine.specs.Whole.{CallsIn, MayCall}
use Rattle.engine.proofs.Closes.{at-rest, doing-works, rest-is}

-- a session that is at work refuses the call
busy : (d : Doing) (w : World) (session : ℕ) (asked : Call) → is_under_way d ≡ true → CallsIn d w session asked (answers.Refused (told.Invalid why.InCall)) w
busy Resting w session asked is = absurd cc
busy (Asked call left) w session asked is = (refl, refl)
busy (Placed call table left) w session asked is = (refl, refl)
busy (Decided answer event left) w session asked is = (refl, refl)
busy (Ending answer left) w session asked is = (refl, refl)

-- a length is judged before the table
long-first : (key : List ℕ) (go : Outcome × Event) (long : Bool)
    → checked_then (first_of ((long, why.KeyLong (length key)) ∷ ((nat_lt VALUE_MAX 0, why.ValueLong 0) ∷ []))) go ≡ (if long then invalid (why.KeyLong (length key)) else go)
long-first key go true = refl
long-first key go false = refl

-- the name of a table that is there is one that a table may have
named-well : (known : List Table) (name : List ℕ) (t : Table) → AllByRecursion (λ (u : Table). is_name u.name ≡ true) known → named name known ≡ Some t → is_name name ≡ true
named-well [] name t all is = let clash : None ≡ Some t = is in absurd cc
named-well (u ∷ known) name t all is = elim (cases_Bool (bytes_eq u.name name)) [
  | inl same ↦ subst (λ (x : List ℕ). is_name x ≡ true) (same_key u.name name same) all.0
  | inr other ↦ named-well known name t all.1 (rw other at is)
]

only-lengths : (s : State) → is_name s.name ≡ true → first_of (item_checks s) ≡ first_of (length_checks s)
only-lengths s well = rw well refl

-- the state of a read that names this
abbrev pub reading : State → List ℕ → List ℕ → State
reading a name key = record a { name = name; key = key; value = [] }

module _ (e : Engine) (w : World) (session : ℕ) (a : State) (st : Stands e w) (at : slice_get e.sessions session ≡ Some a) where
  mine : SessionStands w.machine e.hub e.pieces session a
  mine = st.sessions session a at

  works : is_under_way (doing_of w session) ≡ is_at_work a.stage
  works = ap is_under_way (st.doing session a at) ∙ doing-works e.hub.dir.leaves session a

  rests : is_at_work a.stage ≡ false → doing_of w session ≡ Resting
  rests isnt = rest-is (doing_of w session) (works ∙ isnt)

  pub answered-so : (asked : Call) (answer : Answer (List ℕ)) (later : World) → doing_of w session ≡ Resting → SessionAnswers nothing_around w.machine session asked answer later.machine → later ≡ record w { machine = later.machine }
      → MayCall w session asked answer later
  answered-so asked answer later resting may same = subst (λ (d : Doing). CallsIn d w session asked answer later) (sym resting) (may, same)

  -- a transaction that runs is known to the table of transactions
  pub is-known : (t : Transaction) → transaction_of w.machine session ≡ Some t → t.phase ≡ Running → phase_of e.hub.txns session ≡ phase.Idle → ⊥
  is-known t there running idle = by a.phase refl where
    by : (p : Phase) → a.phase ≡ p → ⊥
    by phase.Idle here = none-some t (sym (idle-none w.machine e.hub e.pieces session a mine here) ∙ there)
    by phase.Running here = let clash : phase.Idle ≡ phase.Running = sym idle ∙ (mine.seated.phase ∙ ap known_phase here) in cc
    by phase.Failed here = let clash : phase.Idle ≡ phase.Running = sym idle ∙ (mine.seated.phase ∙ ap known_phase here) in cc
    by phase.Leaving here = let clash : phase.Idle ≡ phase.Running = sym idle ∙ (mine.seated.phase ∙ ap known_phase here) in cc
    by (phase.Prepared stamp) here = let clash : phase.Idle ≡ phase.Prepared stamp = sym idle ∙ (mine.seated.phase ∙ ap known_phase here) in cc
    by phase.Resolving here = let clash : phase.Idle ≡ phase.Resolving = sym idle ∙ (mine.seated.phase ∙ ap known_phase here) in cc

  module _ (call : KeyCall) (quiet : is_write call ≡ false) (name key : List ℕ) (only : NamesOnly call (reading a name key)) where
    abbrev decides_so : Outcome × Event
    decides_so = decision w.machine session (request_in call (reading a name key))

    abbrev AtLeaf : ℕ → Option Leaf → Type 0
    AtLeaf table o = leaf_sought e.hub.dir.leaves table (sought call (reading a name key) table) ≡ o

    -- ---- the name

    abbrev Named : Type 0
    Named = NotThere e.hub.tables e.hub.dir.leaves w.machine call (reading a name key) ⊎ StandsAt e.hub.tables e.hub.dir.leaves w.machine call (reading a name key)

    table-named : Named
    table-named = find-name e.hub.tables e.hub.dir w.machine call (reading a name key) st.catalog st.made st.dir st.begun

    -- a name that a table may have
    name-well : (table : ℕ) → IsNameOf (tables w.machine.history) table name → is_name name ≡ true
    name-well table (inr none) = none.2
    name-well table (inl of) = named-well e.hub.tables.tables name of.0 st.catalog.names (sym (turn_named e.hub.tables.tables st.catalog.distinct name) ∙ (ap (named name) st.made ∙ of.1))

    -- without a leaf at which it begins there is no table
    no-table : (table : ℕ) → IsNameOf (tables w.machine.history) table name → AtLeaf table None → named name (tables w.machine.history) ≡ None
    no-table table (inr none) bare = none.1
    no-table table (inl of) bare = by table-named where
      by : Named → named name (tables w.machine.history) ≡ None
      by (inl none) = none.table
      by (inr s) =
          let same : s.of ≡ of.0 = same_Some s.of of.0 (sym s.table ∙ of.1) in
          let number : s.leaf.table ≡ table = s.number ∙ (ap (λ (t : Table). t.number) same ∙ of.2) in
          absurd (none-some s.leaf (sym bare ∙ subst (λ n. AtLeaf n (Some s.leaf)) number s.sought))

    -- with one there is, of this number
    pub its-table : (table : ℕ) (l : Leaf) → IsNameOf (tables w.machine.history) table name → AtLeaf table (Some l) → (t : Table) × (named name (tables w.machine.history) ≡ Some t) × (t.number ≡ table)
    its-table table l (inl of) begins = of
    its-table table l (inr none) begins =
        let has = sought-there e.hub.dir table (sought call (reading a name key) table) l st.dir begins in
        let owner = st.owned l has.0 in
        absurd (both_ways (has_table (tables w.machine.history) table) none.0
        (subst (λ n. has_table (tables w.machine.history) n ≡ true) (sym owner.3 ∙ has.1) (table-there w.machine e.hub.tables.tables owner.0 owner.1 st.made owner.2)))

    -- ---- the decision

    abbrev Decides : Option Refusal → Type 0
    Decides (Some r) = decides_so ≡ refused r
    Decides None = (t : Transaction) × (transaction_of w.machine session ≡ Some t) × (t.phase ≡ Running) × (decides_so ≡ named_then w.machine name (Done, Nothing))

    by-length : is_name name ≡ true → (t : Transaction) → transaction_of w.machine session ≡ Some t → t.phase ≡ Running → decides_so ≡ judged_in call (reading a name key) w.machine session t → Decides (long_key key)
    by-length well t there running is = by (nat_lt KEY_MAX (length key)) refl where
      go : Outcome × Event
      go = named_then w.machine name (Done, Nothing)

      judged : (long : Bool) → nat_lt KEY_MAX (length key) ≡ long → decides_so ≡ (if long then invalid (why.KeyLong (length key)) else go)
      judged long e = is ∙ (checks-agree call (reading a name key) w.machine session t only
          ∙ (ap (λ (b : Bool). checked_then (first_of (item_checks (reading a name key))) (named_then w.machine name (draw_by (b && (t.id == 0)) (nat_lt NUMBER_MAX w.machine.next) session))) quiet
          ∙ (ap (λ (o : Option Invalid). checked_then o go) (only-lengths (reading a name key) well)
          ∙ (ap (λ (b : Bool). checked_then (first_of ((b, why.KeyLong (length key)) ∷ ((nat_lt VALUE_MAX 0, why.ValueLong 0) ∷ []))) go) e ∙ long-first key go long))))

      by : (long : Bool) → nat_lt KEY_MAX (length key) ≡ long → Decides (long_key key)
      by true e = subst (λ (b : Bool). Decides (if b then Some (told.Invalid (why.KeyLong (length key))) else None)) (sym e) (judged true e)
      by false e = subst (λ (b : Bool). Decides (if b then Some (told.Invalid (why.KeyLong (length key))) else None)) (sym e) (t, there, running, judged false e)

    decided-in : (t : Transaction) (p : ModelPhase) → w.machine.fault ≡ None → transaction_of w.machine session ≡ Some t → t.phase ≡ p → decides_so ≡ in_state p (judged_in call (reading a name key) w.machine session t)
    decided-in t p up there here = decided-up w.machine session (request_in call (reading a name key)) up
        ∙ (judged-as call (reading a name key) w.machine session ∙ in-phase w.machine session t p (judged_in call (reading a name key) w.machine session) there here)

    kept-out : (p : Phase) (q : ModelPhase) (reason : Invalid) → w.machine.fault ≡ None → a.phase ≡ p → phase_in p ≡ Some q → ((go : Outcome × Event) → in_state q go ≡ invalid reason) → decides_so ≡ invalid reason
    kept-out p q reason up here to state = let t = phase-there w.machine e.hub e.pieces session a p q mine here to in
        decided-in t.0 q up t.1 t.2 ∙ state (judged_in call (reading a name key) w.machine session t.0)

    by-phase : is_name name ≡ true → w.machine.fault ≡ None → (p : Phase) → a.phase ≡ p → Decides (refused_up p key)
    by-phase well up phase.Idle here = decided-up w.machine session (request_in call (reading a name key)) up ∙ (judged-as call (reading a name key) w.machine session
        ∙ none-there w.machine session (λ t. in_state t.phase (judged_in call (reading a name key) w.machine session t)) (idle-none w.machine e.hub e.pieces session a mine here))
    by-phase well up phase.Running here = let t = phase-there w.machine e.hub e.pieces session a phase.Running Running mine here refl in
        by-length well t.0 t.1 t.2 (decided-in t.0 Running up t.1 t.2)
    by-phase well up phase.Failed here = kept-out phase.Failed Failed why.FailedTxn up here refl (λ go. refl)
    by-phase well up phase.Leaving here = kept-out phase.Leaving Leaving why.FailedTxn up here refl (λ go. refl)
    by-phase well up (phase.Prepared stamp) here = kept-out (phase.Prepared stamp) (Prepared stamp) why.Prepared up here refl (λ go. refl)
    by-phase well up phase.Resolving here = kept-out phase.Resolving Resolving why.Prepared up here refl (λ go. refl)

    by-fault : is_name name ≡ true → (f : Option Fault) → e.hub.fault ≡ f → Decides (refused_idle f a.phase key)
    by-fault well None up = by-phase well (sym st.fault ∙ up) a.phase refl
    by-fault well (Some fault) down = decided-down w.machine session (request_in call (reading a name key)) fault (sym st.fault ∙ down) (off-page call (reading a name key) w.machine session)

    -- ---- it is refused, or goes on

    -- of a call for which this decision is a refusal, or in a call that is not finished
    pub refused-call : (table : ℕ) (r : Refusal) (made : Call) → IsNameOf (tables w.machine.history) table name → refused_first e.hub a key ≡ Some r
        → (decides_so ≡ refused r → SessionAnswers nothing_around w.machine session made (answers.Refused r) w.machine) → MayCall w session made (answers.Refused r) w
    refused-call table r made of is answered = by (is_at_work a.stage) refl is where
      by : (b : Bool) → is_at_work a.stage ≡ b → (if b then Some (told.Invalid why.InCall) else refused_idle e.hub.fault a.phase key) ≡ Some r → MayCall w session made (answers.Refused r) w
      by true at_work e_is = subst (λ x. MayCall w session made (answers.Refused x) w) (same_Some (told.Invalid why.InCall) r e_is) (busy (doing_of w session) w session made (works ∙ at_work))
      by false idle e_is = answered-so made (answers.Refused r) w (rests idle) (answered (subst Decides e_is (by-fault (name-well table of) e.hub.fault refl))) refl

    pub record GoesOn : Type 0 where
      pub transaction : Transaction
      pub rests : a.stage ≡ stage.Rest
      pub resting : doing_of w session ≡ Resting
      pub there : transaction_of w.machine session ≡ Some transaction
      pub running : transaction.phase ≡ Running
      pub decided : decides_so ≡ named_then w.machine name (Done, Nothing)

    pub goes-on : (table : ℕ) → IsNameOf (tables w.machine.history) table name → refused_first e.hub a key ≡ None → GoesOn
    goes-on table of is = by (is_at_work a.stage) refl is where
      by : (b : Bool) → is_at_work a.stage ≡ b → (if b then Some (told.Invalid why.InCall) else refused_idle e.hub.fault a.phase key) ≡ None → GoesOn
      by true at_work e_is = absurd (let clash : Some (told.Invalid why.InCall) ≡ None = e_is in cc)
      by false idle e_is = let d = subst Decides e_is (by-fault (name-well table of) e.hub.fault refl) in record { transaction = d.0; rests = at-rest a.stage idle; resting = rests idle; there = d.1; running = d.2; decided = d.3 }

    -- there is no table
    pub table-missing : (table : ℕ) → IsNameOf (tables w.machine.history) table name → GoesOn → AtLeaf table None → decides_so ≡ refused told.NoTable
    table-missing table of g bare = g.decided ∙ ap (λ (o : Option Table). named_by o (Done, Nothing)) (no-table table of bare)

    -- there is one
    pub table-found : (table : ℕ) (l : Leaf) → IsNameOf (tables w.machine.history) table name → GoesOn → AtLeaf table (Some l) → decides_so ≡ (Done, Nothing)
    table-found table l of g begins = g.decided ∙ ap (λ (o : Option Table). named_by o (Done, Nothing)) (its-table table l of begins).1
