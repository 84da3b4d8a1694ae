-- Events on the hub: how they are decided, and what they leave to the leaves and to the other sessions.
use Rattle.std.proofs.Common.{◌≡◌, ◌≢◌, ◌<◌, ℕ, refl, ap, sym, ◌∙◌, Bool, true, false, List, [], length, inl, inr, subst}
use Rattle.std.specs.Prelude.{Option, Some, None, option_map, slice_get, slice_set, slice_index_or, if◌then◌else◌}
use Rattle.std.proofs.lemmas.Bool.{cases_Bool}
use Rattle.std.proofs.lemmas.List.{get_or-set_same, get_or-set_other, length-set}
use Rattle.failure.specs.declared.Fault.{Fault}
use Rattle.wt_code.specs.declared.answers.Answer.TheVariants as answers
use Rattle.wt_code.specs.declared.refusals.Refusal.{Refusal}
use Rattle.wt_code.specs.declared.refusals.Refusal.TheVariants.{Panic}
use Rattle.wt_code.specs.declared.refusals.Invalid.TheVariants as why
use Rattle.kv_model.specs.History.{tables}
use Rattle.kv_model.specs.Machine.{Machine, Transaction, Phase as ModelPhase, transaction_of, of_some, Event, after}
use Rattle.kv_model.specs.Allowed.{Allowed}
use Rattle.kv_model.specs.Reads.{IsEnding}
use Rattle.kv_model.specs.Valid.{Valid}
use Rattle.kv_model.specs.Decisions.{Outcome, Request, refused, invalid, with_session as with_transaction_of, in_state, running_session, judged, decision, is_on_page}
use Rattle.kv_model.proofs.EveryEvent.{valid-after}
use Rattle.reconcile.specs.Shows.{shown_at}
use Rattle.tree_dir.specs.declared.leaf.Leaf.{Leaf}
use Rattle.txn_table.specs.declared.phase.Phase.{Phase}
use Rattle.txn_table.specs.declared.phase.Phase.TheVariants as phase
use Rattle.txn_table.specs.SessionData.{SessionData, opened, is_unreleased, phase_in}
use Rattle.txn_table.specs.Tabled.{Table, session_of, phase_of, ended}
use Rattle.txn_table.specs.Stands.{TableStands}
use Rattle.update_chain.specs.EventLaws.{ChainsGoOn, LeavesAlone}
use Rattle.leaf_chains.specs.Slots.{chain_at}
use Rattle.call_steps.specs.declared.frame.FramePiece.{FramePiece}
use Rattle.call_steps.specs.declared.hub.Hub.{Hub}
use Rattle.call_steps.specs.declared.reply.Reply.{Reply}
use Rattle.call_steps.specs.declared.reply.Reply.TheVariants as reply
use Rattle.call_steps.specs.declared.stage.Stage.{Stage}
use Rattle.call_steps.specs.declared.stage.Stage.TheVariants as stage
use Rattle.call_steps.specs.HubEvents.{Made, beside}
use Rattle.call_steps.specs.State.{State, at_stage, refuses}
use Rattle.engine_world.specs.Worlds.{Records, World, Doing, Resting}
use Rattle.engine_world.specs.Steps.{GoesOn, JudgedBy, SettledBy, Made as Left}
use Rattle.engine_world.specs.Doings.{doing_at, doing_in}
use Rattle.engine_world.specs.Laws.{Leads, with_session, with_hub}
use Rattle.engine_world.specs.Stages.{EndsOnlyDown, StageStands}
use Rattle.engine_world.specs.Stands.{Engine, Stands, SessionStands}
use Rattle.engine_world.proofs.Beside.{Beside, MachineBeside, IsEventOf}
use Rattle.engine_world.proofs.Events.{event-beside, slots-same, updates-same}
use Rattle.row_page.specs.Rows.{Row}
use Rattle.engine_world.specs.Leaves.{LeafStands}
use Rattle.engine_world.proofs.Homes.{LeavesStand}
use Rattle.engine_world.proofs.Moves.{leads, alone-leads}
use Rattle.engine_world.proofs.InPlace.{SessionInPlace}

-- what the law of an event on the hub says, of what it makes
abbrev pub Goes : Engine → World → ℕ → Made → Type 0
Goes e w session made = Leads (with_session (with_hub e made.1.0) session made.1.1) w session made.0

-- ---- decisions

same-both : (b : Bool) (x : Outcome × Event) → (if b then x else x) ≡ x
same-both true x = refl
same-both false x = refl

pub decided-up : (m : Machine) (session : ℕ) (request : Request) → m.fault ≡ None → decision m session request ≡ judged m session request
decided-up m session request up =
    ap (λ (f : Option Fault). if is_on_page m session request then judged m session request else of_some (judged m session request) (λ fault. refused (Panic fault)) f) up
    ∙ same-both (is_on_page m session request) (judged m session request)

pub decided-down : (m : Machine) (session : ℕ) (request : Request) (fault : Fault) → m.fault ≡ Some fault → is_on_page m session request ≡ false → decision m session request ≡ refused (Panic fault)
decided-down m session request fault down off =
    ap (λ (b : Bool). if b then judged m session request else of_some (judged m session request) (λ fault. refused (Panic fault)) m.fault) off
    ∙ ap (λ (f : Option Fault). of_some (judged m session request) (λ fault. refused (Panic fault)) f) down

pub none-there : (m : Machine) (session : ℕ) (go : Transaction → Outcome × Event) → transaction_of m session ≡ None → with_transaction_of m session go ≡ invalid why.NoTxn
none-there m session go none = ap (λ (o : Option Transaction). of_some (invalid why.NoTxn) go o) none

pub one-there : (m : Machine) (session : ℕ) (t : Transaction) (go : Transaction → Outcome × Event) → transaction_of m session ≡ Some t → with_transaction_of m session go ≡ go t
one-there m session t go there = ap (λ (o : Option Transaction). of_some (invalid why.NoTxn) go o) there

-- by the phase of the transaction
pub in-phase : (m : Machine) (session : ℕ) (t : Transaction) (p : ModelPhase) (go : Transaction → Outcome × Event) → transaction_of m session ≡ Some t → t.phase ≡ p → running_session m session go ≡ in_state p (go t)
in-phase m session t p go there is = one-there m session t (λ t. in_state t.phase (go t)) there ∙ ap (λ (q : ModelPhase). in_state q (go t)) is

-- ---- the session's transaction, by its phase

no-phase : (o : Option Transaction) → None ≡ option_map (λ (t : Transaction). t.phase) o → o ≡ None
no-phase None e = refl
no-phase (Some t) e = absurd (cc)

a-phase : (o : Option Transaction) (q : ModelPhase) → Some q ≡ option_map (λ (t : Transaction). t.phase) o → (t : Transaction) × (o ≡ Some t) × (t.phase ≡ q)
a-phase None q e = absurd (cc)
a-phase (Some t) q e = (t, refl, cc)

pub idle-none : (m : Machine) (hub : Hub) (pieces : List FramePiece) (session : ℕ) (a : State) → SessionStands m hub pieces session a → a.phase ≡ phase.Idle → transaction_of m session ≡ None
idle-none m hub pieces session a mine idle = no-phase (transaction_of m session) (sym (ap phase_in idle) ∙ mine.phase)

pub phase-there : (m : Machine) (hub : Hub) (pieces : List FramePiece) (session : ℕ) (a : State) (p : Phase) (q : ModelPhase) → SessionStands m hub pieces session a → a.phase ≡ p → phase_in p ≡ Some q
    → (t : Transaction) × (transaction_of m session ≡ Some t) × (t.phase ≡ q)
phase-there m hub pieces session a p q mine is to = a-phase (transaction_of m session) q (sym to ∙ (sym (ap phase_in is) ∙ mine.phase))

-- one whose phase is not an ending one needs no fault
pub none-ends : (m : Machine) (session : ℕ) → transaction_of m session ≡ None → EndsOnlyDown m session
none-ends m session none t there ending = let e : None ≡ Some t = sym none ∙ there in absurd (cc)

pub phase-ends : (m : Machine) (session : ℕ) (t : Transaction) (q : ModelPhase) → transaction_of m session ≡ Some t → t.phase ≡ q → (IsEnding q → ⊥) → EndsOnlyDown m session
phase-ends m session t q there is living x at ending = let same : t ≡ x = (let e : Some t ≡ Some x = sym there ∙ at in cc) in
    absurd (living (subst IsEnding (ap (λ (y : Transaction). y.phase) (sym same) ∙ is) ending))

-- ---- a call that is refused

pub refused-judged : (d : Outcome × Event) (r : Refusal) (m : Machine) → d ≡ refused r
    → JudgedBy d m (record { told = reply.Answer (answers.Refused r); machine = m; doing = Resting })
refused-judged d r m is = subst (λ (d : Outcome × Event). JudgedBy d m (record { told = reply.Answer (answers.Refused r); machine = m; doing = Resting })) (sym is) (answers.Refused r, refl, refl)

pub refused-settled : (d : Outcome × Event) (r : Refusal) (m : Machine) (session left : ℕ) → d ≡ refused r
    → SettledBy d.0 d.1 m session left (record { told = reply.Answer (answers.Refused r); machine = m; doing = Resting })
refused-settled d r m session left is =
    subst (λ (d : Outcome × Event). SettledBy d.0 d.1 m session left (record { told = reply.Answer (answers.Refused r); machine = m; doing = Resting })) (sym is) (answers.Refused r, refl, refl)

pub rest-stands : (m : Machine) (hub : Hub) (pieces : List FramePiece) (session : ℕ) (a : State) → SessionStands m hub pieces session a → EndsOnlyDown m session → SessionInPlace m hub pieces session (at_stage stage.Rest a)
rest-stands m hub pieces session a mine ends = record {
  phase = mine.phase;
  seated = record { opened = mine.seated.opened; phase = mine.seated.phase };
  cursors = mine.cursors;
  noted = mine.noted;
  stage = ends;
}

pub doing-at : (leaves : List Leaf) (session : ℕ) (a : State) (g : Stage) → a.stage ≡ g → doing_in leaves session a ≡ doing_at g leaves session a
doing-at leaves session a g is = ap (λ (g : Stage). doing_at g leaves session a) is

pub stage-stands : (e : Engine) (w : World) (session : ℕ) (a : State) (g : Stage) → Stands e w → slice_get e.sessions session ≡ Some a → a.stage ≡ g → StageStands g w.machine e.hub.dir.leaves e.pieces session a
stage-stands e w session a g st at is = subst (λ (g : Stage). StageStands g w.machine e.hub.dir.leaves e.pieces session a) is (st.sessions session a at).stage

pub goes-from : (again : Bool) (leaves : List Leaf) (session : ℕ) (a : State) (g : Stage) (m : Machine) (left : Left) → a.stage ≡ g → GoesOn again (doing_at g leaves session a) m session left → GoesOn again (doing_in leaves session a) m session left
goes-from again leaves session a g m left is goes = subst (λ (d : Doing). GoesOn again d m session left) (sym (doing-at leaves session a g is)) goes

-- the machine stays, and the session rests
pub refused-goes : (e : Engine) (w : World) (session : ℕ) (a : State) (g : Stage) (r : Refusal) → Stands e w → slice_get e.sessions session ≡ Some a → a.stage ≡ g → EndsOnlyDown w.machine session
    → GoesOn (w.again session) (doing_at g e.hub.dir.leaves session a) w.machine session (record { told = reply.Answer (answers.Refused r); machine = w.machine; doing = Resting })
    → Goes e w session (beside e.hub (refuses r a))
refused-goes e w session a g r st at is ends goes = alone-leads e w session a (at_stage stage.Rest a) e.hazards (reply.Answer (answers.Refused r)) st at
    (goes-from (w.again session) e.hub.dir.leaves session a g w.machine (record { told = reply.Answer (answers.Refused r); machine = w.machine; doing = Resting }) is goes)
    (rest-stands w.machine e.hub e.pieces session a (st.sessions session a at) ends)

-- ---- leaves

pub leaves-go-on : ChainsGoOn → (m : Machine) (event : Event) (shelf : ℕ → List Row) (records : Records) (leaves : List Leaf) (pieces : List FramePiece) (states : List ℕ) → Valid m → Allowed m event → ((table : ℕ) (key : List ℕ) → LeavesAlone m table key event)
    → LeavesStand m shelf records leaves pieces states → LeavesStand (after m event) shelf records leaves pieces states
leaves-go-on law m event shelf records leaves pieces states v may alone stand l there = by (stand l there) where
  by : LeafStands m shelf records leaves pieces states l → LeafStands (after m event) shelf records leaves pieces states l
  by (inl x) = inl (record {
    laid = x.laid;
    keys = λ key home. law m event l.table key (chain_at key x.laid.frame.leaf.chains) (shown_at key x.laid.frame.leaf.page) [] v may (alone l.table key) (x.keys key home);
    bare = x.bare;
    lies = x.lies;
    none = x.none;
  })
  by (inr x) = inr (record {
    none = x.none;
    keys = λ key home. law m event l.table key [] (shown_at key (shelf l.id)) (records l.id key) v may (alone l.table key) (x.keys key home);
    ordered = x.ordered;
    bare = x.bare;
  })

-- ---- the table of transactions

-- one session of it is as it is now
pub record SetsSeat (t now : Table) (session : ℕ) (u : SessionData) : Type 0 where
  pub run : now.run ≡ t.run
  pub sessions : now.sessions ≡ slice_set t.sessions session u

abbrev pub seat_in : Table → ℕ → Phase → SessionData
seat_in t session p = record (session_of t session) { phase = p }

pub ended-sets : (t : Table) (session : ℕ) → SetsSeat t (ended t session) session (seat_in t session phase.Idle)
ended-sets t session = elim (cases_Bool (is_unreleased (phase_of t session))) [
  | inl is ↦ record { run = rw is refl; sessions = rw is refl }
  | inr isnt ↦ record { run = rw isnt refl; sessions = rw isnt refl }
]

pub seat-now : (t now : Table) (session : ℕ) (u : SessionData) → SetsSeat t now session u → session < length t.sessions → session_of now session ≡ u
seat-now t now session u s inside = ap (λ (l : List SessionData). slice_index_or l session (opened now.run)) s.sessions ∙ get_or-set_same t.sessions session u (opened now.run) inside

pub seats-opened : (t now : Table) (session : ℕ) (u : SessionData) → SetsSeat t now session u → length now.sessions ≡ length t.sessions
seats-opened t now session u s = ap length s.sessions ∙ length-set t.sessions session u

pub other-seats : (t now : Table) (session : ℕ) (u : SessionData) → SetsSeat t now session u → (r : ℕ) → r ≢ session → session_of now r ≡ session_of t r
other-seats t now session u s r other = ap (λ (l : List SessionData). slice_index_or l r (opened now.run)) s.sessions
    ∙ (get_or-set_other t.sessions session r u (opened now.run) other ∙ ap (λ run. slice_index_or t.sessions r (opened run)) s.run)

pub seat-beside : (session : ℕ) (m next : Machine) (hub : Hub) (now : Table) (u : SessionData) (pieces : List FramePiece) → MachineBeside session m next → SetsSeat hub.txns now session u
    → Beside session m next hub (record hub { txns = now }) pieces pieces
seat-beside session m next hub now u pieces machine s = record {
  machine = machine;
  tables = refl;
  dir = refl;
  seats = seats-opened hub.txns now session u s;
  phases = λ r other. ap (λ (x : SessionData). x.phase) (other-seats hub.txns now session u s r other);
  slots = slots-same pieces;
  updates = updates-same m session pieces;
}

-- ---- an event with a call of the table

-- it changes one seat, and the leaves stand
pub seat-leads : (e : Engine) (w : World) (session : ℕ) (old a : State) (now : Table) (u : SessionData) (event : Event) (told : Reply) → Stands e w → slice_get e.sessions session ≡ Some old
    → Allowed w.machine event → IsEventOf session event → SetsSeat e.hub.txns now session u → TableStands now (after w.machine event) → tables (after w.machine event).history ≡ tables w.machine.history
    → LeavesStand (after w.machine event) w.shelf w.records e.hub.dir.leaves e.pieces e.states
    → GoesOn (w.again session) (doing_in e.hub.dir.leaves session old) w.machine session (record { told = told; machine = after w.machine event; doing = doing_in e.hub.dir.leaves session a })
    → SessionInPlace (after w.machine event) (record e.hub { txns = now }) e.pieces session a
    → Goes e w session (told, (record e.hub { txns = now }, a))
seat-leads e w session old a now u event told st at may of seat stands known leaves goes mine =
    leads e w session old a (record e.hub { txns = now }) e.pieces e.hazards (after w.machine event) told st at goes (record {
      valid = valid-after w.machine event st.valid may;
      beside = seat-beside session w.machine (after w.machine event) e.hub now u e.pieces (event-beside session w.machine event st.valid may of) seat;
      fault = refl;
      stamps = refl;
      txns = stands;
      made = known;
      leaves = leaves;
      mine = mine;
    })
