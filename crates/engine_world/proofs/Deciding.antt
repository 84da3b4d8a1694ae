-- The deciding events of a prepare, a commit and a rollback, and a session whose transaction is in another phase after them.
use Rattle.std.proofs.Common.{◌≡◌, ◌<◌, ℕ, refl, ap, sym, ◌∙◌, Bool, List, [], ◌∷◌, length, subst, map, arith}
use Rattle.std.specs.Prelude.{Option, Some, None, option_map}
use Rattle.std.proofs.lemmas.List.{get_or-set_same}
use Rattle.wt_code.specs.declared.refusals.Invalid.{Invalid}
use Rattle.wt_code.specs.declared.refusals.Refusal.TheVariants as told
use Rattle.kv_model.specs.History.{Entry, Write, tables}
use Rattle.kv_model.specs.Machine.{Machine, Transaction, Phase as ModelPhase, Event, PrepareAt, CommitAt, StartLeaving, of_some, appended, decided, in_phase, left, prepared, transaction_of, cursors_of, with_transaction, after}
use Rattle.kv_model.specs.Decisions.{Outcome, Done, Refused, ruled}
use Rattle.kv_model.specs.Refusals.{first_of}
use Rattle.kv_model.proofs.Seats.{seat-inside}
use Rattle.tree_dir.specs.declared.leaf.Leaf.{Leaf}
use Rattle.txn_table.specs.declared.phase.Phase.{Phase}
use Rattle.txn_table.specs.SessionData.{SessionData, phase_in}
use Rattle.txn_table.specs.Tabled.{Table, in_phase as put_in_phase, phase_of, released_in}
use Rattle.call_steps.specs.declared.frame.FramePiece.{FramePiece}
use Rattle.call_steps.specs.declared.hub.Hub.{Hub}
use Rattle.call_steps.specs.HubEvents.{IsSeated, known_phase}
use Rattle.call_steps.specs.State.{State}
use Rattle.engine_world.specs.Doings.{doing_in, decide_left}
use Rattle.engine_world.specs.Leaves.{AreNoted}
use Rattle.engine_world.specs.Stands.{SessionStands, writes_in}
use Rattle.engine_world.specs.Steps.{Made, GoesOn, SettledBy}
use Rattle.engine_world.specs.Worlds.{World}
use Rattle.engine_world.proofs.HubMoves.{SetsSeat, seat_in, seat-now, seats-opened}
use Rattle.engine_world.proofs.InPlace.{SessionInPlace, StageInPlace}

-- ---- stamp rules

pub ruled-none : (rules : List (Bool × Invalid)) (event refusal : Event) → first_of rules ≡ None → ruled rules event refusal ≡ (Done, event)
ruled-none rules event refusal passes = ap (λ (o : Option Invalid). of_some {A = Invalid} {B = Outcome × Event} (Done, event) (λ reason. (Refused (told.Invalid reason), refusal)) o) passes

pub ruled-some : (rules : List (Bool × Invalid)) (event refusal : Event) (reason : Invalid) → first_of rules ≡ Some reason → ruled rules event refusal ≡ (Refused (told.Invalid reason), refusal)
ruled-some rules event refusal reason holds = ap (λ (o : Option Invalid). of_some {A = Invalid} {B = Outcome × Event} (Done, event) (λ reason. (Refused (told.Invalid reason), refusal)) o) holds

-- ---- what an event of the session's transaction leaves

pub prepare-is : (m : Machine) (session stamp : ℕ) (t : Transaction) → transaction_of m session ≡ Some t → after m (PrepareAt session stamp) ≡ prepared m session stamp t
prepare-is m session stamp t there = ap (of_some m (prepared m session stamp)) there

pub commit-is : (m : Machine) (session commit durable : ℕ) (t : Transaction) (p : ModelPhase) → transaction_of m session ≡ Some t → t.phase ≡ p → after m (CommitAt session commit durable) ≡ decided p m session commit durable t
commit-is m session commit durable t p there is = ap (of_some m (λ (x : Transaction). decided x.phase m session commit durable x)) there ∙ ap (λ (q : ModelPhase). decided q m session commit durable t) is

pub leave-is : (m : Machine) (session : ℕ) (t : Transaction) (p : ModelPhase) → transaction_of m session ≡ Some t → t.phase ≡ p → after m (StartLeaving session) ≡ left p m session t
leave-is m session t p there is = ap (of_some m (λ (x : Transaction). left x.phase m session x)) there ∙ ap (λ (q : ModelPhase). left q m session t) is

-- an entry that makes no table
pub tables-appended : (writes : List Write) (entry : Entry) (history : List Entry) → tables (entry ∷ history) ≡ tables history → tables (appended writes entry history) ≡ tables history
tables-appended [] entry history same = refl
tables-appended (w ∷ writes) entry history same = same

-- ---- the transaction in another phase

pub record IsIn (m next : Machine) (session : ℕ) (t : Transaction) (q : ModelPhase) : Type 0 where
  pub there : transaction_of next session ≡ Some (in_phase q t)
  pub cursors : cursors_of next session ≡ cursors_of m session
  pub run : next.run ≡ m.run

pub in-set : (m : Machine) (session : ℕ) (t : Transaction) (q : ModelPhase) (history : List Entry) → transaction_of m session ≡ Some t
    → IsIn m (record (with_transaction m session (Some (in_phase q t))) { history = history }) session t q
in-set m session t q history there = record {
  there = get_or-set_same m.sessions session (Some (in_phase q t)) None (seat-inside m.sessions session t there);
  cursors = refl;
  run = refl;
}

-- the session keeps its writes and its cursors
pub phased-stands : (m next : Machine) (hub : Hub) (now : Table) (pieces : List FramePiece) (session : ℕ) (a b : State) (t : Transaction) (q : ModelPhase) → SessionStands m hub pieces session a → transaction_of m session ≡ Some t
    → IsIn m next session t q → IsSeated (record hub { txns = now }) session b → phase_in b.phase ≡ Some q → b.cursors ≡ a.cursors → b.written ≡ a.written → StageInPlace b.stage next hub.dir.leaves pieces session b
    → SessionInPlace next (record hub { txns = now }) pieces session b
phased-stands m next hub now pieces session a b t q mine there is seated phase cursors written stands = record {
  phase = phase ∙ sym (ap (option_map (λ (x : Transaction). x.phase)) is.there);
  seated = seated;
  cursors = ap (map _) cursors ∙ (mine.cursors ∙ sym is.cursors);
  noted = subst (λ keys. AreNoted hub.dir.leaves pieces (writes_in next session) keys) (sym written) (subst (λ writes. AreNoted hub.dir.leaves pieces writes a.written) (sym same) mine.noted);
  stage = stands;
} where
  same : writes_in next session ≡ writes_in m session
  same = ap (of_some [] (λ (x : Transaction). x.writes)) is.there ∙ sym (ap (of_some [] (λ (x : Transaction). x.writes)) there)

-- ---- its seat

pub phase-sets : (txns : Table) (session : ℕ) (p : Phase) → SetsSeat txns (put_in_phase txns session p) session (seat_in txns session p)
phase-sets txns session p = record { run = refl; sessions = refl }

pub release-sets : (txns : Table) (session : ℕ) (p : Phase) → SetsSeat txns (released_in txns session p) session (seat_in txns session p)
release-sets txns session p = record { run = refl; sessions = refl }

-- the seat is there, in this phase
pub seat-is : (txns now : Table) (session : ℕ) (p : Phase) → SetsSeat txns now session (seat_in txns session p) → session < length txns.sessions → (session < length now.sessions) × (phase_of now session ≡ p)
seat-is txns now session p sets opened = (
  (let same = seats-opened txns now session (seat_in txns session p) sets in omega (arith, opened)),
  ap (λ (x : SessionData). x.phase) (seat-now txns now session (seat_in txns session p) sets opened),
)

-- the session has a place in the table, in the phase that it is in
pub seated-in : (hub : Hub) (now : Table) (session : ℕ) (p : Phase) (b : State) → SetsSeat hub.txns now session (seat_in hub.txns session p) → session < length hub.txns.sessions → known_phase b.phase ≡ p
    → IsSeated (record hub { txns = now }) session b
seated-in hub now session p b sets opened is = let seat = seat-is hub.txns now session p sets opened in record { opened = seat.0; phase = seat.1 ∙ sym is }

-- ---- the world's steps

-- what the event that decides a commit or a rollback leads to
abbrev pub Settling : List Leaf → World → ℕ → State → Outcome → Event → Type 0
Settling leaves w session a outcome event = (made : Made) → SettledBy outcome event w.machine session (decide_left a) made → GoesOn (w.again session) (doing_in leaves session a) w.machine session made
