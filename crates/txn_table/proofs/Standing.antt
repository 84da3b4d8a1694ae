-- A table goes on to stand for the sessions of a machine.
use Rattle.std.proofs.Common.{◌≡◌, ◌⊎◌, ◌<◌, ◌+◌, ℕ, zero, suc, refl, ap, sym, ◌∙◌, Bool, true, false, List, [], ◌∷◌, ◌++◌, length, inl, inr, subst, arith, length-append}
use Rattle.std.specs.Prelude.{◌&&◌, nat_lt, if◌then◌else◌, Option, Some, None, slice_index_or, slice_set, option_map}
use Rattle.std.proofs.lemmas.Bool.{cases_eq, cases_Bool, both_ways, and_parts, and_from, lt-ltb, ltb-true}
use Rattle.std.proofs.lemmas.List.{get_or-set_same, get_or-set_other, length-set}
use Rattle.kv_model.specs.Machine.{Machine, Transaction, Phase as ModelPhase, Running as ModelRunning, Failed as ModelFailed, Prepared as ModelPrepared, Resolving as ModelResolving, Leaving as ModelLeaving, Event, OpenSession, BeginAt, DrawId, AcceptWrite, RefuseWrite, PrepareAt, CommitAt, StartLeaving, EndTransaction, PlaceCursor, CreateTable, SetStamps, RollbackToStable, CheckpointStart, CheckpointFinish, CheckpointDrop, GoDown, Nothing, after, begun as begun_in, transaction_of, of_some, decided, left, prepared, finished, written, in_phase as phased}
use Rattle.kv_model.specs.Allowed.{Allowed, CommitsAt}
use Rattle.kv_model.specs.Valid.{Valid}
use Rattle.snapshot.specs.Sight.{Ascends, is_listed, sight_at}
use Rattle.snapshot.specs.Matters.{SeesFirst, AreRunning, IsRunning, IsUnreleased}
use Rattle.snapshot.proofs.Sighting.{sees-first}
use Rattle.snapshot.proofs.GoingOn.{Follows, goes-on, follows-after, follows-itself}
use Rattle.txn_table.specs.declared.written_leaf.WrittenLeaf.{WrittenLeaf}
use Rattle.txn_table.specs.declared.phase.Phase.{Phase}
use Rattle.txn_table.specs.declared.phase.Phase.TheVariants.{Idle, Running, Failed, Prepared, Resolving, Leaving}
use Rattle.txn_table.specs.SessionData.{SessionData, opened, is_unreleased, runs, phase_in, MayBe}
use Rattle.txn_table.specs.Tabled.{Table, session_of, phase_of, without, IsTable, one_more, begun, drawn, registered, taken_from, in_phase, released_in, ended}
use Rattle.txn_table.specs.Stands.{TransactionStands, SessionStands, TableStands}
use Rattle.txn_table.specs.TableLaws.{CallsStand, IsBeside}
use Rattle.txn_table.proofs.TableLemmas.{changed, state-same, state-other, table-same, table-released, table-drawn, table-opened, append-opened, next-above}

-- ---- phases

unreleased-in : (p : Phase) (q : ModelPhase) → MayBe p q → is_unreleased p ≡ true → IsUnreleased q
unreleased-in Idle q e is = absurd e
unreleased-in Running q e is = e
unreleased-in Failed q (inl e) is = subst IsUnreleased (sym e) tt
unreleased-in Failed q (inr e) is = subst IsUnreleased (sym e) tt
unreleased-in Leaving q e is = subst IsUnreleased (sym e) tt
unreleased-in (Prepared stamp) q e is = absurd (cc)
unreleased-in Resolving q e is = absurd (cc)

in-unreleased : (p : Phase) (q : ModelPhase) → MayBe p q → IsUnreleased q → is_unreleased p ≡ true
in-unreleased Idle q e is = absurd e
in-unreleased Running q e is = refl
in-unreleased Failed q e is = refl
in-unreleased Leaving q e is = refl
in-unreleased (Prepared stamp) q e is = absurd (subst IsUnreleased e is)
in-unreleased Resolving q e is = absurd (subst IsUnreleased e is)

-- the phase of a session whose transaction is in one
running-of : (p : Phase) → MayBe p ModelRunning → p ≡ Running
running-of Idle e = absurd e
running-of Running e = refl
running-of Failed (inl e) = absurd (cc)
running-of Failed (inr e) = absurd (cc)
running-of Leaving e = absurd (cc)
running-of (Prepared stamp) e = absurd (cc)
running-of Resolving e = absurd (cc)

running-from : (p : Phase) (q : ModelPhase) → MayBe p q → q ≡ ModelRunning → p ≡ Running
running-from p q may e = running-of p (subst (MayBe p) e may)

idle-of : (p : Phase) → phase_in p ≡ None → p ≡ Idle
idle-of Idle e = refl
idle-of Running e = absurd (cc)
idle-of Failed e = absurd (cc)
idle-of Leaving e = absurd (cc)
idle-of (Prepared stamp) e = absurd (cc)
idle-of Resolving e = absurd (cc)

-- ---- sessions

-- what stands where a transaction is
standing-at : (m : Machine) (x : SessionData) (o : Option Transaction) (t : Transaction) → o ≡ Some t → SessionStands m x o → TransactionStands m x t
standing-at m x o t is stands = subst (λ z. SessionStands m x z) is stands

pub state-at : (t : Table) (m : Machine) (s : ℕ) (x : Transaction) → TableStands t m → transaction_of m s ≡ Some x → TransactionStands m (session_of t s) x
state-at t m s x stands there = standing-at m (session_of t s) (transaction_of m s) x there (stands.sessions s)

-- a session that is not idle has a transaction
transaction-at : (t : Table) (m : Machine) (s : ℕ) → TableStands t m → (phase_in (phase_of t s) ≡ None → ⊥) → (x : Transaction) × (transaction_of m s ≡ Some x) × MayBe (phase_of t s) x.phase
transaction-at t m s stands busy = by-state (transaction_of m s) refl where
  by-state : (o : Option Transaction) → transaction_of m s ≡ o → (x : Transaction) × (transaction_of m s ≡ Some x) × MayBe (phase_of t s) x.phase
  by-state None is = absurd (busy (subst (λ z. SessionStands m (session_of t s) z) is (stands.sessions s)))
  by-state (Some x) is = (x, is, (state-at t m s x stands is).phase)

are-running : (t : Table) (m : Machine) → TableStands t m → AreRunning m t.running
are-running t m stands = record {
  each = λ id is. let at = stands.table.each id is in runs-at at.0 id at.2 at.3;
  all = λ id r. let state = state-at t m r.session r.transaction stands r.there in
      let drawn = r.drawn in let same = r.same in let mine = state.id in
      let on : runs (session_of t r.session) ≡ true = and_from (is_unreleased (phase_of t r.session)) (nat_lt 0 (session_of t r.session).id) (in-unreleased (phase_of t r.session) r.transaction.phase state.phase r.phase) (lt-ltb 0 (session_of t r.session).id (omega arith)) in
      subst (λ i. is_listed t.running i ≡ true) (state.id ∙ r.same) (stands.table.listed r.session on);
} where
  runs-at : (s id : ℕ) → runs (session_of t s) ≡ true → (session_of t s).id ≡ id → IsRunning m id
  runs-at s id on same = by-state (transaction_of m s) refl where
    parts : (is_unreleased (phase_of t s) ≡ true) × (nat_lt 0 (session_of t s).id ≡ true)
    parts = and_parts (is_unreleased (phase_of t s)) (nat_lt 0 (session_of t s).id) on

    by-state : (o : Option Transaction) → transaction_of m s ≡ o → IsRunning m id
    by-state None is = let none : phase_in (phase_of t s) ≡ None = subst (λ z. SessionStands m (session_of t s) z) is (stands.sessions s) in
        let idle = idle-of (phase_of t s) none in absurd (both_ways (is_unreleased (phase_of t s)) (ap is_unreleased idle) parts.0)
    by-state (Some x) is = let state = state-at t m s x stands is in record {
      session = s;
      transaction = x;
      there = is;
      drawn = (let low = ltb-true 0 (session_of t s).id parts.1 in omega arith);
      same = sym state.id ∙ same;
      phase = unreleased-in (phase_of t s) x.phase state.phase parts.0;
    }

-- ---- one event

stands-on : (m next : Machine) (x : SessionData) (o : Option Transaction) → Valid m → Follows m next → SessionStands m x o → SessionStands next x o
stands-on m next x None v f stands = stands
stands-on m next x (Some t) v f stands = record { phase = stands.phase; id = stands.id; read = stands.read; sees = goes-on m next t.start x.sight v f stands.sees }

-- no session changed
pub same-moves : (t : Table) (m next : Machine) → TableStands t m → Valid m → Follows m next → next.sessions ≡ m.sessions → next.next ≡ m.next → TableStands t next
same-moves t m next stands v f sessions ids = record {
  table = stands.table;
  run = stands.run ∙ sym f.run;
  next = stands.next ∙ sym ids;
  count = stands.count ∙ ap length (sym sessions);
  sessions = λ r. subst (λ o. SessionStands next (session_of t r) o) (ap (λ l. slice_index_or l r None) (sym sessions)) (stands-on m next (session_of t r) (transaction_of m r) v f (stands.sessions r));
}

-- one session changed
pub state-moves : (t : Table) (m next : Machine) (s : ℕ) (u : SessionData) (o : Option Transaction) (ids : List ℕ) (id : ℕ) → TableStands t m → Valid m → Follows m next → s < length t.sessions
    → next.sessions ≡ slice_set m.sessions s o → IsTable (changed t s u ids id) → id ≡ next.next → SessionStands next u o → TableStands (changed t s u ids id) next
state-moves t m next s u o ids id stands v f inside sessions table new now = record {
  table = table;
  run = stands.run ∙ sym f.run;
  next = new;
  count = length-set t.sessions s u ∙ (stands.count ∙ (sym (length-set m.sessions s o) ∙ ap length (sym sessions)));
  sessions = λ r. elim (cases_eq r s) [
    | inl same ↦ subst (λ i. SessionStands next (session_of (changed t s u ids id) i) (transaction_of next i)) (sym same)
        (subst (λ z. SessionStands next z (transaction_of next s)) (sym (state-same t s u ids id inside)) (subst (λ z. SessionStands next u z) (sym at-s) now))
    | inr other ↦ subst (λ z. SessionStands next z (transaction_of next r)) (sym (state-other t s r u ids id other))
        (subst (λ z. SessionStands next (session_of t r) z) (sym (at-other r other)) (stands-on m next (session_of t r) (transaction_of m r) v f (stands.sessions r)))
  ];
} where
  within : s < length m.sessions
  within = let e = stands.count in omega arith

  at-s : transaction_of next s ≡ o
  at-s = ap (λ l. slice_index_or l s None) sessions ∙ get_or-set_same m.sessions s o None within

  at-other : (r : ℕ) → (r ≡ s → ⊥) → transaction_of next r ≡ transaction_of m r
  at-other r other = ap (λ l. slice_index_or l r None) sessions ∙ get_or-set_other m.sessions s r o None other

-- who has a transaction is open
open-at : (t : Table) (m : Machine) (s : ℕ) (x : Transaction) → TableStands t m → transaction_of m s ≡ Some x → s < length t.sessions
open-at t m s x stands there = let low = seat-inside m.sessions s x there in let e = stands.count in omega arith where
  seat-inside : {A : Type 0} (xs : List (Option A)) (s : ℕ) (x : A) → slice_index_or xs s None ≡ Some x → s < length xs
  seat-inside [] s x e = absurd (cc)
  seat-inside (y ∷ ys) zero x e = omega arith
  seat-inside (y ∷ ys) (suc s) x e = let low = seat-inside ys s x e in omega arith

begins : (t : Table) (m : Machine) (s read : ℕ) → Valid m → TableStands t m → Allowed m (BeginAt s read) → TableStands (begun t s read) (after m (BeginAt s read))
begins t m s read v stands may =
    let next = after m (BeginAt s read) in
    let follows = follows-after m (BeginAt s read) v may in
    let inside : s < length t.sessions = let low = may.0 in let e = stands.count in omega arith in
    let idle : phase_of t s ≡ Idle = idle-of (phase_of t s) (subst (λ o. SessionStands m (session_of t s) o) may.1 (stands.sessions s)) in
    let rests : runs (session_of t s) ≡ false = ap (λ p. is_unreleased p && nat_lt 0 (session_of t s).id) idle in
    let here : SeesFirst m (length m.history) (sight_at t.run t.next t.running) =
    subst (λ n. SeesFirst m (length m.history) (sight_at t.run n t.running)) (sym stands.next) (subst (λ r. SeesFirst m (length m.history) (sight_at r m.next t.running)) (sym stands.run)
    (sees-first m t.running v (subst (λ n. Ascends 1 t.running n) stands.next stands.table.ascending) (are-running t m stands))) in
    state-moves t m (after m (BeginAt s read)) s (record { phase = Running; id = 0; read = read; sight = sight_at t.run t.next t.running; written = [] }) (Some (begun_in m read)) t.running t.next stands v follows inside refl
    (table-same t s (record { phase = Running; id = 0; read = read; sight = sight_at t.run t.next t.running; written = [] }) stands.table inside (omega arith) (sym rests) (λ yes. absurd (cc)))
    stands.next
    (record { phase = tt; id = refl; read = refl; sees = goes-on m (after m (BeginAt s read)) (length m.history) (sight_at t.run t.next t.running) v follows here })

draws : (t : Table) (m : Machine) (s : ℕ) → Valid m → TableStands t m → Allowed m (DrawId s) → TableStands (drawn t s) (after m (DrawId s))
draws t m s v stands may =
    let x = may.0 in
    let state = state-at t m s may.0 stands may.1 in
    let inside = open-at t m s may.0 stands may.1 in
    let follows = follows-after m (DrawId s) v may in
    let running : phase_of t s ≡ Running = running-from (phase_of t s) may.0.phase state.phase may.2.0 in
    let none : (session_of t s).id ≡ 0 = state.id ∙ may.2.1 in
    let above = next-above t stands.table in
    let rests : runs (session_of t s) ≡ false = no-one (is_unreleased (phase_of t s)) (session_of t s).id none in
    let run : runs (record (session_of t s) { id = t.next }) ≡ true = and_from (is_unreleased (phase_of t s)) (nat_lt 0 t.next) (ap is_unreleased running) (lt-ltb 0 t.next (omega arith)) in
    state-moves t m (after m (DrawId s)) s (record (session_of t s) { id = t.next }) (option_map (λ (z : Transaction). record z { id = m.next }) (transaction_of m s)) (t.running ++ t.next ∷ []) (t.next + 1) stands v follows inside refl
    (table-drawn t s (record (session_of t s) { id = t.next }) stands.table inside rests refl run) (ap (λ n. n + 1) stands.next)
    (subst (λ o. SessionStands (after m (DrawId s)) (record (session_of t s) { id = t.next }) o) (sym (ap (option_map (λ (z : Transaction). record z { id = m.next })) may.1))
    (record { phase = state.phase; id = stands.next; read = state.read; sees = goes-on m (after m (DrawId s)) may.0.start (session_of t s).sight v follows state.sees })) where
      no-one : (b : Bool) (id : ℕ) → id ≡ 0 → (b && nat_lt 0 id) ≡ false
      no-one true id e = ap (λ i. nat_lt 0 i) e
      no-one false id e = refl

-- a session that was in a phase is in another
abbrev pub phase-changed : Table → ℕ → Phase → SessionData
phase-changed t s p = record (session_of t s) { phase = p }

-- the transaction of the session changed its phase alone, and neither runs or both do
phase-moves : (t : Table) (m next : Machine) (s : ℕ) (p : Phase) (q : ModelPhase) (x : Transaction) → TableStands t m → Valid m → Follows m next → transaction_of m s ≡ Some x
    → next.sessions ≡ slice_set m.sessions s (Some (phased q x)) → next.next ≡ m.next → MayBe p q → is_unreleased p ≡ is_unreleased (phase_of t s) → TableStands (in_phase t s p) next
phase-moves t m next s p q x stands v f there sessions ids phase same =
    let state = state-at t m s x stands there in
    state-moves t m next s (phase-changed t s p) (Some (phased q x)) t.running t.next stands v f (open-at t m s x stands there) sessions
    (table-same t s (phase-changed t s p) stands.table (open-at t m s x stands there) (omega arith) (ap (λ b. b && nat_lt 0 (session_of t s).id) same) (λ yes. refl))
    (stands.next ∙ sym ids)
    (record { phase = phase; id = state.id; read = state.read; sees = goes-on m next x.start (session_of t s).sight v f state.sees })

-- the same where its id stops running; o: what is left of it
release-moves : (t : Table) (m next : Machine) (s : ℕ) (p : Phase) (x : Transaction) (o : Option Transaction) → TableStands t m → Valid m → Follows m next → transaction_of m s ≡ Some x
    → next.sessions ≡ slice_set m.sessions s o → next.next ≡ m.next → is_unreleased (phase_of t s) ≡ true → is_unreleased p ≡ false → SessionStands next (phase-changed t s p) o → TableStands (released_in t s p) next
release-moves t m next s p x o stands v f there sessions ids is isnt now =
    state-moves t m next s (phase-changed t s p) o (without (session_of t s).id t.running) t.next stands v f (open-at t m s x stands there) sessions
    (table-released t s (phase-changed t s p) stands.table (open-at t m s x stands there) (omega arith) is (ap (λ b. b && nat_lt 0 (session_of t s).id) isnt))
    (stands.next ∙ sym ids) now

fails : (t : Table) (m : Machine) (s : ℕ) → Valid m → TableStands t m → Allowed m (RefuseWrite s) → TableStands (in_phase t s Failed) (after m (RefuseWrite s))
fails t m s v stands may =
    let state = state-at t m s may.0 stands may.1 in
    let running : phase_of t s ≡ Running = running-from (phase_of t s) may.0.phase state.phase may.2 in
    phase-moves t m (after m (RefuseWrite s)) s Failed ModelFailed may.0 stands v (follows-after m (RefuseWrite s) v may) may.1
    (ap (λ o. slice_set m.sessions s (option_map (phased ModelFailed) o)) may.1) refl (inl refl) (sym (ap is_unreleased running))

prepares : (t : Table) (m : Machine) (s stamp : ℕ) → Valid m → TableStands t m → Allowed m (PrepareAt s stamp) → TableStands (released_in t s (Prepared stamp)) (after m (PrepareAt s stamp))
prepares t m s stamp v stands may =
    let state = state-at t m s may.0.0 stands may.0.1 in
    let follows = follows-after m (PrepareAt s stamp) v may in
    let running : phase_of t s ≡ Running = running-from (phase_of t s) may.0.0.phase state.phase may.0.2 in
    release-moves t m (after m (PrepareAt s stamp)) s (Prepared stamp) may.0.0 (Some (phased (ModelPrepared stamp) may.0.0)) stands v follows may.0.1
    (ap (λ o. (of_some m (prepared m s stamp) o).sessions) may.0.1) (ap (λ o. (of_some m (prepared m s stamp) o).next) may.0.1) (ap is_unreleased running) refl
    (record { phase = refl; id = state.id; read = state.read; sees = goes-on m (after m (PrepareAt s stamp)) may.0.0.start (session_of t s).sight v follows state.sees })

releases : (t : Table) (m : Machine) (s commit durable : ℕ) → Valid m → TableStands t m → Allowed m (CommitAt s commit durable) → phase_of t s ≡ Running → TableStands (released_in t s Idle) (after m (CommitAt s commit durable))
releases t m s commit durable v stands may is =
    let state = state-at t m s may.0 stands may.1 in
    let phase : may.0.phase ≡ ModelRunning = same-phase may.0.phase (subst (λ p. MayBe p may.0.phase) is state.phase) may.2 in
    release-moves t m (after m (CommitAt s commit durable)) s Idle may.0 None stands v (follows-after m (CommitAt s commit durable) v may) may.1
    (ap (λ o. (of_some m (λ z. decided z.phase m s commit durable z) o).sessions) may.1 ∙ ap (λ p. (decided p m s commit durable may.0).sessions) phase)
    (ap (λ o. (of_some m (λ z. decided z.phase m s commit durable z) o).next) may.1 ∙ ap (λ p. (decided p m s commit durable may.0).next) phase)
    (ap is_unreleased is) refl refl where
      same-phase : (q : ModelPhase) → IsUnreleased q → CommitsAt q commit durable → q ≡ ModelRunning
      same-phase ModelRunning is may = refl
      same-phase ModelFailed is may = absurd may
      same-phase (ModelPrepared stamp) is may = absurd is
      same-phase ModelResolving is may = absurd is
      same-phase ModelLeaving is may = absurd may

prepared-phase : (p : Phase) (q : ModelPhase) (stamp : ℕ) → p ≡ Prepared stamp → MayBe p q → q ≡ ModelPrepared stamp
prepared-phase p q stamp e may = subst (λ (z : Phase). MayBe z q) e may

resolves : (t : Table) (m : Machine) (s commit durable stamp : ℕ) → Valid m → TableStands t m → Allowed m (CommitAt s commit durable) → phase_of t s ≡ Prepared stamp → TableStands (in_phase t s Resolving) (after m (CommitAt s commit durable))
resolves t m s commit durable stamp v stands may is =
    let state = state-at t m s may.0 stands may.1 in
    let phase = prepared-phase (phase_of t s) may.0.phase stamp is state.phase in
    phase-moves t m (after m (CommitAt s commit durable)) s Resolving ModelResolving may.0 stands v (follows-after m (CommitAt s commit durable) v may) may.1
    (ap (λ o. (of_some m (λ z. decided z.phase m s commit durable z) o).sessions) may.1 ∙ ap (λ p. (decided p m s commit durable may.0).sessions) phase)
    (ap (λ o. (of_some m (λ z. decided z.phase m s commit durable z) o).next) may.1 ∙ ap (λ p. (decided p m s commit durable may.0).next) phase)
    refl (sym (ap is_unreleased is))

busy-of : (p : Phase) (stamp : ℕ) → p ≡ Prepared stamp → phase_in p ≡ None → ⊥
busy-of p stamp e none = let f : phase_in (Prepared stamp) ≡ None = sym (ap phase_in e) ∙ none in absurd (cc)

undoes : (t : Table) (m : Machine) (s stamp : ℕ) → Valid m → TableStands t m → phase_of t s ≡ Prepared stamp → TableStands (in_phase t s Resolving) (after m (StartLeaving s))
undoes t m s stamp v stands is =
    let at = transaction-at t m s stands (busy-of (phase_of t s) stamp is) in
    let phase = prepared-phase (phase_of t s) at.0.phase stamp is at.2 in
    phase-moves t m (after m (StartLeaving s)) s Resolving ModelResolving at.0 stands v (follows-after m (StartLeaving s) v tt) at.1
    (ap (λ o. (of_some m (λ z. left z.phase m s z) o).sessions) at.1 ∙ ap (λ p. (left p m s at.0).sessions) phase)
    (ap (λ o. (of_some m (λ z. left z.phase m s z) o).next) at.1 ∙ ap (λ p. (left p m s at.0).next) phase)
    refl (sym (ap is_unreleased is))

-- what the first event of a rollback leaves of a transaction that is not released
left-sessions : (q : ModelPhase) (m : Machine) (s : ℕ) (x : Transaction) → IsUnreleased q → (left q m s x).sessions ≡ slice_set m.sessions s (Some (phased ModelLeaving x))
left-sessions ModelRunning m s x is = refl
left-sessions ModelFailed m s x is = refl
left-sessions ModelLeaving m s x is = refl
left-sessions (ModelPrepared stamp) m s x is = absurd is
left-sessions ModelResolving m s x is = absurd is

left-next : (q : ModelPhase) (m : Machine) (s : ℕ) (x : Transaction) → IsUnreleased q → (left q m s x).next ≡ m.next
left-next ModelRunning m s x is = refl
left-next ModelFailed m s x is = refl
left-next ModelLeaving m s x is = refl
left-next (ModelPrepared stamp) m s x is = absurd is
left-next ModelResolving m s x is = absurd is

-- a session of a running or a failed transaction
unreleased-state : (p : Phase) → (p ≡ Running) ⊎ (p ≡ Failed) → is_unreleased p ≡ true
unreleased-state p (inl is) = ap is_unreleased is
unreleased-state p (inr is) = ap is_unreleased is

busy-state : (p : Phase) → (p ≡ Running) ⊎ (p ≡ Failed) → phase_in p ≡ None → ⊥
busy-state p (inl is) none = let f : phase_in Running ≡ None = sym (ap phase_in is) ∙ none in absurd (cc)
busy-state p (inr is) none = let f : phase_in Failed ≡ None = sym (ap phase_in is) ∙ none in absurd (cc)

leaves : (t : Table) (m : Machine) (s : ℕ) → Valid m → TableStands t m → (phase_of t s ≡ Running) ⊎ (phase_of t s ≡ Failed) → TableStands (in_phase t s Leaving) (after m (StartLeaving s))
leaves t m s v stands is =
    let at = transaction-at t m s stands (busy-state (phase_of t s) is) in
    let free = unreleased-in (phase_of t s) at.0.phase at.2 (unreleased-state (phase_of t s) is) in
    phase-moves t m (after m (StartLeaving s)) s Leaving ModelLeaving at.0 stands v (follows-after m (StartLeaving s) v tt) at.1
    (ap (λ o. (of_some m (λ z. left z.phase m s z) o).sessions) at.1 ∙ left-sessions at.0.phase m s at.0 free)
    (ap (λ o. (of_some m (λ z. left z.phase m s z) o).next) at.1 ∙ left-next at.0.phase m s at.0 free)
    refl (sym (unreleased-state (phase_of t s) is))

ends : (t : Table) (m : Machine) (s : ℕ) → Valid m → TableStands t m → Allowed m (EndTransaction s) → TableStands (ended t s) (after m (EndTransaction s))
ends t m s v stands may = elim (cases_Bool (is_unreleased (phase_of t s))) [
  | inl is ↦ subst (λ b. TableStands (if b then released_in t s Idle else in_phase t s Idle) (after m (EndTransaction s))) (sym is)
      (release-moves t m (after m (EndTransaction s)) s Idle may.0 None stands v (follows-after m (EndTransaction s) v may) may.1 refl refl is refl refl)
  | inr isnt ↦ subst (λ b. TableStands (if b then released_in t s Idle else in_phase t s Idle) (after m (EndTransaction s))) (sym isnt)
      (state-moves t m (after m (EndTransaction s)) s (phase-changed t s Idle) None t.running t.next stands v (follows-after m (EndTransaction s) v may) (open-at t m s may.0 stands may.1) refl
      (table-same t s (phase-changed t s Idle) stands.table (open-at t m s may.0 stands may.1) (omega arith) (sym (ap (λ b. b && nat_lt 0 (session_of t s).id) isnt)) (λ yes. refl)) stands.next refl)
]

opens : (t : Table) (m : Machine) → Valid m → TableStands t m → TableStands (one_more t) (after m OpenSession)
opens t m v stands = record {
  table = table-opened t stands.table;
  run = stands.run;
  next = stands.next;
  count = (let a = length-append t.sessions (opened t.run ∷ []) in let b = length-append m.sessions (None ∷ []) in let e = stands.count in omega arith);
  sessions = λ r. subst (λ z. SessionStands (after m OpenSession) z (transaction_of (after m OpenSession) r)) (sym (append-opened t.run t.sessions r))
      (subst (λ o. SessionStands (after m OpenSession) (session_of t r) o) (sym (append-none m.sessions r))
      (stands-on m (after m OpenSession) (session_of t r) (transaction_of m r) v (follows-after m OpenSession v tt) (stands.sessions r)));
} where
  append-none : {A : Type 0} (xs : List (Option A)) (s : ℕ) → slice_index_or (xs ++ None ∷ []) s None ≡ slice_index_or xs s None
  append-none [] zero = refl
  append-none [] (suc s) = refl
  append-none (x ∷ xs) zero = refl
  append-none (x ∷ xs) (suc s) = append-none xs s

set-itself : {A : Type 0} (xs : List (Option A)) (s : ℕ) → slice_set xs s (slice_index_or xs s None) ≡ xs
set-itself [] s = refl
set-itself (x ∷ xs) zero = refl
set-itself (x ∷ xs) (suc s) = ap (λ l. x ∷ l) (set-itself xs s)

-- what a session keeps changed alone
other-written : (m : Machine) (x : SessionData) (leaves : List WrittenLeaf) (o : Option Transaction) → SessionStands m x o → SessionStands m (record x { written = leaves }) o
other-written m x leaves None stands = stands
other-written m x leaves (Some t) stands = record { phase = stands.phase; id = stands.id; read = stands.read; sees = stands.sees }

registers : (t : Table) (m : Machine) (s : ℕ) (leaf : WrittenLeaf) → Valid m → TableStands t m → s < length t.sessions → TableStands (registered t s leaf) m
registers t m s leaf v stands inside =
    state-moves t m m s (record (session_of t s) { written = (session_of t s).written ++ leaf ∷ [] }) (transaction_of m s) t.running t.next stands v (follows-itself m) inside (sym (set-itself m.sessions s))
    (table-same t s (record (session_of t s) { written = (session_of t s).written ++ leaf ∷ [] }) stands.table inside (omega arith) refl (λ yes. refl)) stands.next
    (other-written m (session_of t s) ((session_of t s).written ++ leaf ∷ []) (transaction_of m s) (stands.sessions s))

takes : (t : Table) (m : Machine) (s : ℕ) → Valid m → TableStands t m → s < length t.sessions → TableStands (taken_from t s) m
takes t m s v stands inside =
    state-moves t m m s (record (session_of t s) { written = [] }) (transaction_of m s) t.running t.next stands v (follows-itself m) inside (sym (set-itself m.sessions s))
    (table-same t s (record (session_of t s) { written = [] }) stands.table inside (omega arith) refl (λ yes. refl)) stands.next
    (other-written m (session_of t s) [] (transaction_of m s) (stands.sessions s))

-- the writes of one transaction changed alone
writes : (t : Table) (m next : Machine) (s : ℕ) (x y : Transaction) → TableStands t m → Valid m → Follows m next → transaction_of m s ≡ Some x → next.sessions ≡ slice_set m.sessions s (Some y) → next.next ≡ m.next
    → y.id ≡ x.id → y.read ≡ x.read → MayBe (phase_of t s) y.phase → y.start ≡ x.start → TableStands t next
writes t m next s x y stands v f there sessions ids id read phase start = record {
  table = stands.table;
  run = stands.run ∙ sym f.run;
  next = stands.next ∙ sym ids;
  count = stands.count ∙ (sym (length-set m.sessions s (Some y)) ∙ ap length (sym sessions));
  sessions = λ r. elim (cases_eq r s) [
    | inl same ↦ subst (λ i. SessionStands next (session_of t i) (transaction_of next i)) (sym same) (subst (λ o. SessionStands next (session_of t s) o) (sym at-s) now)
    | inr other ↦ subst (λ o. SessionStands next (session_of t r) o) (sym (ap (λ l. slice_index_or l r None) sessions ∙ get_or-set_other m.sessions s r (Some y) None other))
        (stands-on m next (session_of t r) (transaction_of m r) v f (stands.sessions r))
  ];
} where
  state : TransactionStands m (session_of t s) x
  state = state-at t m s x stands there

  at-s : transaction_of next s ≡ Some y
  at-s = ap (λ l. slice_index_or l s None) sessions ∙ get_or-set_same m.sessions s (Some y) None (let low = open-at t m s x stands there in let e = stands.count in omega arith)

  now : TransactionStands next (session_of t s) y
  now = record {
    phase = phase;
    id = state.id ∙ sym id;
    read = state.read ∙ sym read;
    sees = subst (λ n. SeesFirst next n (session_of t s).sight) (sym start) (goes-on m next x.start (session_of t s).sight v f state.sees);
  }

-- the table learns later
maybe-leaving : (p : Phase) → (p ≡ Running) ⊎ (p ≡ Failed) → MayBe p ModelLeaving
maybe-leaving p (inl is) = subst (λ (z : Phase). MayBe z ModelLeaving) (sym is) tt
maybe-leaving p (inr is) = subst (λ (z : Phase). MayBe z ModelLeaving) (sym is) (inr refl)

lags : (t : Table) (m : Machine) (s : ℕ) → Valid m → TableStands t m → (phase_of t s ≡ Running) ⊎ (phase_of t s ≡ Failed) → TableStands t (after m (StartLeaving s))
lags t m s v stands is =
    let at = transaction-at t m s stands (busy-state (phase_of t s) is) in
    let free = unreleased-in (phase_of t s) at.0.phase at.2 (unreleased-state (phase_of t s) is) in
    writes t m (after m (StartLeaving s)) s at.0 (phased ModelLeaving at.0) stands v (follows-after m (StartLeaving s) v tt) at.1
    (ap (λ o. (of_some m (λ z. left z.phase m s z) o).sessions) at.1 ∙ left-sessions at.0.phase m s at.0 free)
    (ap (λ o. (of_some m (λ z. left z.phase m s z) o).next) at.1 ∙ left-next at.0.phase m s at.0 free)
    refl refl (maybe-leaving (phase_of t s) is) refl

finish-sessions : (m : Machine) → ((after m CheckpointFinish).sessions ≡ m.sessions) × ((after m CheckpointFinish).next ≡ m.next)
finish-sessions m = by-run m.checkpoint where
  by-run : (o : Option _) → ((of_some m (finished m) o).sessions ≡ m.sessions) × ((of_some m (finished m) o).next ≡ m.next)
  by-run None = (refl, refl)
  by-run (Some k) = (refl, refl)

others : (t : Table) (m : Machine) (event : Event) → Valid m → TableStands t m → IsBeside event → Allowed m event → TableStands t (after m event)
others t m (AcceptWrite s table key change) v stands beside may = writes t m (after m (AcceptWrite s table key change)) s may.0 (written table key change may.0) stands v (follows-after m (AcceptWrite s table key change) v may) may.1
    (ap (λ o. slice_set m.sessions s (option_map (written table key change) o)) may.1) refl refl refl (state-at t m s may.0 stands may.1).phase refl
others t m (RefuseWrite s) v stands beside may =
    let state = state-at t m s may.0 stands may.1 in
    let running : phase_of t s ≡ Running = running-from (phase_of t s) may.0.phase state.phase may.2 in
    writes t m (after m (RefuseWrite s)) s may.0 (phased ModelFailed may.0) stands v (follows-after m (RefuseWrite s) v may) may.1
    (ap (λ o. slice_set m.sessions s (option_map (phased ModelFailed) o)) may.1) refl refl refl (subst (λ p. MayBe p ModelFailed) (sym running) tt) refl
others t m (PlaceCursor s cursor position) v stands beside may = same-moves t m (after m (PlaceCursor s cursor position)) stands v (follows-after m (PlaceCursor s cursor position) v may) refl refl
others t m (CreateTable table) v stands beside may = same-moves t m (after m (CreateTable table)) stands v (follows-after m (CreateTable table) v may) refl refl
others t m (SetStamps oldest stable) v stands beside may = same-moves t m (after m (SetStamps oldest stable)) stands v (follows-after m (SetStamps oldest stable) v may) refl refl
others t m RollbackToStable v stands beside may = same-moves t m (after m RollbackToStable) stands v (follows-after m RollbackToStable v may) refl refl
others t m CheckpointStart v stands beside may = same-moves t m (after m CheckpointStart) stands v (follows-after m CheckpointStart v may) refl refl
others t m CheckpointFinish v stands beside may = let e = finish-sessions m in same-moves t m (after m CheckpointFinish) stands v (follows-after m CheckpointFinish v may) e.0 e.1
others t m CheckpointDrop v stands beside may = same-moves t m (after m CheckpointDrop) stands v (follows-after m CheckpointDrop v may) refl refl
others t m (GoDown fault) v stands beside may = same-moves t m (after m (GoDown fault)) stands v (follows-after m (GoDown fault) v may) refl refl
others t m Nothing v stands beside may = stands
others t m OpenSession v stands beside may = absurd beside
others t m (BeginAt s read) v stands beside may = absurd beside
others t m (DrawId s) v stands beside may = absurd beside
others t m (PrepareAt s stamp) v stands beside may = absurd beside
others t m (CommitAt s commit durable) v stands beside may = absurd beside
others t m (StartLeaving s) v stands beside may = absurd beside
others t m (EndTransaction s) v stands beside may = absurd beside

pub calls-stand : (t : Table) (m : Machine) → Valid m → TableStands t m → CallsStand t m
calls-stand t m v stands = record {
  opens = opens t m v stands;
  begins = λ s read may. begins t m s read v stands may;
  draws = λ s may. draws t m s v stands may;
  registers = λ s leaf inside. registers t m s leaf v stands inside;
  takes = λ s inside. takes t m s v stands inside;
  fails = λ s may. fails t m s v stands may;
  prepares = λ s stamp may. prepares t m s stamp v stands may;
  releases = λ s commit durable may is. releases t m s commit durable v stands may is;
  resolves = λ s commit durable stamp may is. resolves t m s commit durable stamp v stands may is;
  leaves = λ s is. leaves t m s v stands is;
  lags = λ s is. lags t m s v stands is;
  undoes = λ s stamp is. undoes t m s stamp v stands is;
  ends = λ s may. ends t m s v stands may;
  others = λ event beside may. others t m event v stands beside may;
}
