-- What a snapshot does not see of those that have not ended stays unseen, over events, and so does what they commit.
use Rattle.std.proofs.Common.{◌≡◌, ◌⊎◌, ◌∙◌, ◌≤◌, ℕ, zero, suc, Bool, true, false, List, [], ◌∷◌, ◌++◌, length, get_or, set, Option, Some, None, refl, ap, sym, subst, inl, inr, arith}
use Rattle.std.specs.Prelude.{MatchOption, ◌==◌, ◌&&◌, ◌||◌, nat_lt, not, option_map}
use Rattle.std.proofs.Math.Bool.{and-false}
use Rattle.std.proofs.lemmas.Bool.{and_parts, le-ltb, or_cases}
use Rattle.stamp.specs.declared.Name.{Name}
use Rattle.kv_model.specs.History.{Entry, Create, Commit, Prepare, Resolve, Table, Undo, Write, committed, ends, name_eq}
use Rattle.kv_model.specs.Machine.{Machine, Transaction, Phase, Running, Failed, Prepared, Resolving, Leaving, Event, OpenSession, BeginAt, DrawId, AcceptWrite, RefuseWrite, PrepareAt, CommitAt, StartLeaving, EndTransaction, PlaceCursor, CreateTable, SetStamps, RollbackToStable, CheckpointStart, CheckpointFinish, CheckpointDrop, GoDown, Nothing, after, appended, begun, decided, in_phase, left, name_in, name_of, of_some, prepared, stamped, transaction_of, written}
use Rattle.kv_model.proofs.Releases.{committed-whole, name_eq-same}
use Rattle.snapshot.specs.Sight.{Sight, is_listed, is_seen}
use Rattle.ckpt_step.specs.Keeps.{IsOrdinaryEvent}
use Rattle.ckpt_step.specs.Moments.{SeesNone}

-- ---- what stays

-- it is of this run, and sees nobody that has not ended
pub record IsApart (m : Machine) (s : Sight) : Type 0 where
  pub run : s.run ≡ m.run
  pub order : s.min ≤ s.max
  pub drawn : s.max ≤ m.next
  pub unseen : SeesNone m s

-- a name of its run that it does not see, or none
abbrev pub IsUnseen : Sight → Name → Type 0
IsUnseen s x = (x.run ≡ s.run) × ((x.id ≡ 0) ⊎ (is_seen s x ≡ false))

-- so is each name that these entries commit
abbrev pub AreUnseen : Sight → List Entry → Type 0
AreUnseen s [] = Unit {0}
AreUnseen s (entry ∷ older) = ((x : Name) → ends entry x ≡ true → IsUnseen s x) × AreUnseen s older

-- such entries were added
pub record Grows (s : Sight) (history next : List Entry) : Type 0 where
  pub news : List Entry
  pub whole : next ≡ news ++ history
  pub unseen : AreUnseen s news

-- a machine goes on so, whatever the snapshot
abbrev pub GoesApart : Machine → Machine → Type 0
GoesApart m next = (s : Sight) → IsApart m s → IsApart next s × Grows s m.history next.history

-- ---- entries

unseen_both : (s : Sight) (news older : List Entry) → AreUnseen s news → AreUnseen s older → AreUnseen s (news ++ older)
unseen_both s [] older one two = two
unseen_both s (entry ∷ news) older one two = (one.0, unseen_both s news older one.1 two)

append_twice : (a b c : List Entry) → a ++ (b ++ c) ≡ (a ++ b) ++ c
append_twice [] b c = refl
append_twice (x ∷ a) b c = ap (λ (l : List Entry). x ∷ l) (append_twice a b c)

grows_same : (s : Sight) (history : List Entry) → Grows s history history
grows_same s history = record { news = []; whole = refl; unseen = tt }

grows_by : (s : Sight) (history : List Entry) (entry : Entry) → ((x : Name) → ends entry x ≡ true → IsUnseen s x) → Grows s history (entry ∷ history)
grows_by s history entry unseen = record { news = entry ∷ []; whole = refl; unseen = (unseen, tt) }

grows_then : (s : Sight) (a b c : List Entry) → Grows s a b → Grows s b c → Grows s a c
grows_then s a b c one two = record {
  news = two.news ++ one.news;
  whole = two.whole ∙ (ap (λ (l : List Entry). two.news ++ l) one.whole ∙ append_twice two.news one.news a);
  unseen = unseen_both s two.news one.news two.unseen one.unseen;
}

grows_appended : (s : Sight) (writes : List Write) (entry : Entry) (history : List Entry) → ((x : Name) → ends entry x ≡ true → IsUnseen s x) → Grows s history (appended writes entry history)
grows_appended s [] entry history unseen = grows_same s history
grows_appended s (w ∷ writes) entry history unseen = grows_by s history entry unseen

-- what is committed was, or is of a name that is not seen
pub committed_grown : (s : Sight) (news history : List Entry) (x : Name) → AreUnseen s news → committed (news ++ history) (length (news ++ history)) x ≡ true → (committed history (length history) x ≡ true) ⊎ IsUnseen s x
committed_grown s [] history x unseen is = inl is
committed_grown s (entry ∷ news) history x unseen is =
    elim (or_cases (ends entry x && nat_lt (length (news ++ history)) (length (entry ∷ (news ++ history)))) (committed (news ++ history) (length (entry ∷ (news ++ history))) x) is) [
      | inl here ↦ inr (unseen.0 x (and_parts (ends entry x) (nat_lt (length (news ++ history)) (length (entry ∷ (news ++ history)))) here).0)
      | inr later ↦ committed_grown s news history x unseen.1 (committed-whole (news ++ history) (length (entry ∷ (news ++ history))) x later)
    ]

-- ---- transactions

-- the transaction, if there is one, has no name that is seen
abbrev IsHid : Sight → ℕ → Option Transaction → Type 0
IsHid s run o = MatchOption o (Unit {0}) (λ t. (t.id ≡ 0) ⊎ (is_seen s (name_in run t) ≡ false))

hid_set : (s : Sight) (run : ℕ) (xs : List (Option Transaction)) (i : ℕ) (o : Option Transaction) → ((k : ℕ) → IsHid s run (get_or xs k None)) → IsHid s run o → (k : ℕ) → IsHid s run (get_or (set xs i o) k None)
hid_set s run [] i o each there k = each k
hid_set s run (x ∷ xs) zero o each there zero = there
hid_set s run (x ∷ xs) zero o each there (suc k) = each (suc k)
hid_set s run (x ∷ xs) (suc i) o each there zero = each zero
hid_set s run (x ∷ xs) (suc i) o each there (suc k) = hid_set s run xs i o (λ n. each (suc n)) there k

hid_more : (s : Sight) (run : ℕ) (xs : List (Option Transaction)) → ((k : ℕ) → IsHid s run (get_or xs k None)) → (k : ℕ) → IsHid s run (get_or (xs ++ None ∷ []) k None)
hid_more s run [] each zero = tt
hid_more s run [] each (suc k) = each (suc k)
hid_more s run (x ∷ xs) each zero = each zero
hid_more s run (x ∷ xs) each (suc k) = hid_more s run xs (λ n. each (suc n)) k

-- a change that keeps the id
hid_changed : (s : Sight) (run : ℕ) (change : Transaction → Transaction) (o : Option Transaction) → ((t : Transaction) → (change t).id ≡ t.id) → IsHid s run o → IsHid s run (option_map change o)
hid_changed s run change None same hid = tt
hid_changed s run change (Some t) same hid = subst (λ (n : ℕ). (n ≡ 0) ⊎ (is_seen s (record { run = run; id = n }) ≡ false)) (sym (same t)) hid

-- the id that comes next is not seen
next_unseen : (m : Machine) (s : Sight) → IsApart m s → is_seen s (record { run = m.run; id = m.next }) ≡ false
next_unseen m s a =
    let no_earlier : nat_lt m.run s.run ≡ false = le-ltb m.run s.run (omega (arith, a.run)) in
    let no_min : nat_lt m.next s.min ≡ false = le-ltb m.next s.min (omega (arith, a.order, a.drawn)) in
    let no_max : nat_lt m.next s.max ≡ false = le-ltb m.next s.max a.drawn in
    rw (no_earlier, no_min, no_max) (and-false (m.run == s.run))

-- ---- machines that go on

pub apart_same : (m : Machine) → GoesApart m m
apart_same m s a = (a, grows_same s m.history)

pub apart_on : (m middle next : Machine) → GoesApart m middle → GoesApart middle next → GoesApart m next
apart_on m middle next one two s a =
    let first = one s a in
    let second = two s first.0 in
    (second.0, grows_then s m.history middle.history next.history first.1 second.1)

-- the history is the same, and so is the run
same_history : (m next : Machine) → next.run ≡ m.run → m.next ≤ next.next → next.history ≡ m.history → ((s : Sight) → IsApart m s → (k : ℕ) → IsHid s next.run (transaction_of next k)) → GoesApart m next
same_history m next run more history hid s a = (
  record { run = a.run ∙ sym run; order = a.order; drawn = omega (arith, a.drawn, more); unseen = hid s a },
  subst (λ (h : List Entry). Grows s m.history h) (sym history) (grows_same s m.history),
)

-- one session's transaction is another, which is not seen
one_session : (m : Machine) (session : ℕ) (o : Option Transaction) → ((s : Sight) → IsApart m s → IsHid s m.run o) → (s : Sight) → IsApart m s → (k : ℕ) → IsHid s m.run (get_or (set m.sessions session o) k None)
one_session m session o hid s a = hid_set s m.run m.sessions session o a.unseen (hid s a)

-- the name of a transaction that is not seen
own_unseen : (m : Machine) (s : Sight) (a : IsApart m s) (t : Transaction) → IsHid s m.run (Some t) → (x : Name) → name_eq (name_of m t) x ≡ true → IsUnseen s x
own_unseen m s a t hid x is =
    let both = name_eq-same (name_of m t) x is in
    let same : name_of m t ≡ x = λ i. record { run = both.0 i; id = both.1 i } in
    (sym both.0 ∙ sym a.run, subst (λ (y : Name). (y.id ≡ 0) ⊎ (is_seen s y ≡ false)) same hid)

none_ends : (x : Name) (s : Sight) → false ≡ true → IsUnseen s x
none_ends x s is = absurd (cc)

module _ (m : Machine) (session : ℕ) (t : Transaction) (hid : (s : Sight) → IsApart m s → IsHid s m.run (Some t)) where
  -- its transaction gives way to this, and an entry is added that commits no other name
  entry_apart : (next : Machine) (o : Option Transaction) (writes : List Write) (entry : Entry) → next.run ≡ m.run → next.next ≡ m.next → next.sessions ≡ set m.sessions session o → next.history ≡ appended writes entry m.history
      → ((s : Sight) → IsApart m s → IsHid s m.run o) → ((s : Sight) → IsApart m s → (x : Name) → ends entry x ≡ true → IsUnseen s x) → GoesApart m next
  entry_apart next o writes entry run id sessions history own unseen s a = (
    record {
      run = a.run ∙ sym run;
      order = a.order;
      drawn = omega (arith, a.drawn, id);
      unseen = λ k. subst (λ (n : ℕ). IsHid s n (transaction_of next k)) (sym run) (subst (λ (l : List (Option Transaction)). IsHid s m.run (get_or l k None)) (sym sessions) (one_session m session o own s a k));
    },
    subst (λ (h : List Entry). Grows s m.history h) (sym history) (grows_appended s writes entry m.history (unseen s a)),
  )

  decided_apart : (commit durable : ℕ) (p : Phase) → GoesApart m (decided p m session commit durable t)
  decided_apart commit durable Running = entry_apart (decided Running m session commit durable t) None t.writes (Commit (name_of m t) (stamped commit durable t.writes)) refl refl refl refl (λ s a. tt) (λ s a x is. own_unseen m s a t (hid s a) x is)
  decided_apart commit durable Failed = entry_apart (decided Failed m session commit durable t) None t.writes (Commit (name_of m t) (stamped commit durable t.writes)) refl refl refl refl (λ s a. tt) (λ s a x is. own_unseen m s a t (hid s a) x is)
  decided_apart commit durable (Prepared stamp) = entry_apart (decided (Prepared stamp) m session commit durable t) (Some (in_phase Resolving t)) t.writes (Resolve (name_of m t) (stamped commit durable t.writes)) refl refl refl refl hid (λ s a x is. own_unseen m s a t (hid s a) x is)
  decided_apart commit durable Resolving = entry_apart (decided Resolving m session commit durable t) None t.writes (Commit (name_of m t) (stamped commit durable t.writes)) refl refl refl refl (λ s a. tt) (λ s a x is. own_unseen m s a t (hid s a) x is)
  decided_apart commit durable Leaving = entry_apart (decided Leaving m session commit durable t) None t.writes (Commit (name_of m t) (stamped commit durable t.writes)) refl refl refl refl (λ s a. tt) (λ s a x is. own_unseen m s a t (hid s a) x is)

  -- it is in another phase, with nothing added
  phase_apart : (p : Phase) → GoesApart m (record m { sessions = set m.sessions session (Some (in_phase p t)) })
  phase_apart p = same_history m (record m { sessions = set m.sessions session (Some (in_phase p t)) }) refl (omega arith) refl (one_session m session (Some (in_phase p t)) hid)

  left_apart : (p : Phase) → GoesApart m (left p m session t)
  left_apart Running = phase_apart Leaving
  left_apart Failed = phase_apart Leaving
  left_apart (Prepared stamp) = entry_apart (left (Prepared stamp) m session t) (Some (in_phase Resolving t)) t.writes (Undo (name_of m t)) refl refl refl refl hid (λ s a x is. none_ends x s is)
  left_apart Resolving = apart_same m
  left_apart Leaving = phase_apart Leaving

  prepared_apart : (stamp : ℕ) → GoesApart m (prepared m session stamp t)
  prepared_apart stamp = entry_apart (prepared m session stamp t) (Some (in_phase (Prepared stamp) t)) t.writes (Prepare (name_of m t) stamp) refl refl refl refl hid (λ s a x is. none_ends x s is)

-- so where there may be no transaction
of_session : (m : Machine) (f : Transaction → Machine) (o : Option Transaction) → ((s : Sight) → IsApart m s → IsHid s m.run o) → ((t : Transaction) → ((s : Sight) → IsApart m s → IsHid s m.run (Some t)) → GoesApart m (f t)) → GoesApart m (of_some m f o)
of_session m f None hid each = apart_same m
of_session m f (Some t) hid each = each t hid

changing_apart : (m : Machine) (session : ℕ) (change : Transaction → Transaction) → ((t : Transaction) → (change t).id ≡ t.id) → GoesApart m (record m { sessions = set m.sessions session (option_map change (transaction_of m session)) })
changing_apart m session change same =
    same_history m (record m { sessions = set m.sessions session (option_map change (transaction_of m session)) }) refl (omega arith) refl
    (one_session m session (option_map change (transaction_of m session)) (λ s a. hid_changed s m.run change (transaction_of m session) same (a.unseen session)))

-- the id that is drawn is not seen
draw_hid : (m : Machine) (s : Sight) (o : Option Transaction) → IsApart m s → IsHid s m.run (option_map (λ (t : Transaction). record t { id = m.next }) o)
draw_hid m s None a = tt
draw_hid m s (Some t) a = inr (next_unseen m s a)

create_apart : (m : Machine) (table : Table) → GoesApart m (after m (CreateTable table))
create_apart m table s a = (
  record { run = a.run; order = a.order; drawn = a.drawn; unseen = a.unseen },
  grows_by s m.history (Create table) (λ x is. none_ends x s is),
)

-- ---- events

pub apart_after : (m : Machine) (event : Event) → IsOrdinaryEvent event → GoesApart m (after m event)
apart_after m OpenSession ordinary = same_history m (after m OpenSession) refl (omega arith) refl (λ s a. hid_more s m.run m.sessions a.unseen)
apart_after m (BeginAt session read) ordinary = same_history m (after m (BeginAt session read)) refl (omega arith) refl (one_session m session (Some (begun m read)) (λ s a. inl refl))
apart_after m (DrawId session) ordinary =
    same_history m (after m (DrawId session)) refl (omega arith) refl (one_session m session (option_map (λ (t : Transaction). record t { id = m.next }) (transaction_of m session)) (λ s a. draw_hid m s (transaction_of m session) a))
apart_after m (AcceptWrite session table key change) ordinary = changing_apart m session (written table key change) (λ t. refl)
apart_after m (RefuseWrite session) ordinary = changing_apart m session (in_phase Failed) (λ t. refl)
apart_after m (PrepareAt session stamp) ordinary = of_session m (prepared m session stamp) (transaction_of m session) (λ s a. a.unseen session) (λ t hid. prepared_apart m session t hid stamp)
apart_after m (CommitAt session commit durable) ordinary =
    of_session m (λ (t : Transaction). decided t.phase m session commit durable t) (transaction_of m session) (λ s a. a.unseen session) (λ t hid. decided_apart m session t hid commit durable t.phase)
apart_after m (StartLeaving session) ordinary = of_session m (λ (t : Transaction). left t.phase m session t) (transaction_of m session) (λ s a. a.unseen session) (λ t hid. left_apart m session t hid t.phase)
apart_after m (EndTransaction session) ordinary = same_history m (after m (EndTransaction session)) refl (omega arith) refl (one_session m session None (λ s a. tt))
apart_after m (PlaceCursor session cursor position) ordinary = same_history m (after m (PlaceCursor session cursor position)) refl (omega arith) refl (λ s a. a.unseen)
apart_after m (CreateTable table) ordinary = create_apart m table
apart_after m (SetStamps oldest stable) ordinary = same_history m (after m (SetStamps oldest stable)) refl (omega arith) refl (λ s a. a.unseen)
apart_after m RollbackToStable ordinary = absurd ordinary
apart_after m CheckpointStart ordinary = absurd ordinary
apart_after m CheckpointFinish ordinary = absurd ordinary
apart_after m CheckpointDrop ordinary = absurd ordinary
apart_after m (GoDown fault) ordinary = absurd ordinary
apart_after m Nothing ordinary = apart_same m

-- a fault changes nothing of it
pub apart_down : (m next : Machine) → next.run ≡ m.run → next.next ≡ m.next → next.sessions ≡ m.sessions → next.history ≡ m.history → GoesApart m next
apart_down m next run id sessions history =
    same_history m next run (omega (arith, id)) history
    (λ s a k. subst (λ (n : ℕ). IsHid s n (transaction_of next k)) (sym run) (subst (λ (l : List (Option Transaction)). IsHid s m.run (get_or l k None)) (sym sessions) (a.unseen k)))
