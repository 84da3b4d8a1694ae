-- What is before a floor stays, over events.
use Rattle.std.proofs.Common.{◌≡◌, ◌⊎◌, ◌∙◌, ◌+◌, ◌<◌, ◌≤◌, ℕ, zero, suc, Bool, true, false, List, [], ◌∷◌, ◌++◌, map, get_or, set, Option, Some, None, refl, ap, sym, subst, inl, inr, arith}
use Rattle.std.specs.Prelude.{MatchOption, ◌==◌, ◌&&◌, ◌||◌, filter, nat_lt, option_map, slice_get}
use Rattle.std.specs.List.{Contains}
use Rattle.std.proofs.Math.Bool.{and-false}
use Rattle.std.proofs.lemmas.Bool.{and_parts, cases_eq, cases_lt, eqb-true, false≢true, le-ltb, ltb-true, ne_eqb}
use Rattle.tree_open.specs.declared.place.TreePlace.{TreePlace}
use Rattle.item.specs.declared.Change.{Change}
use Rattle.stamp.specs.declared.Name.{Name}
use Rattle.stamp.specs.declared.Version.{Version}
use Rattle.kv_model.specs.Calls.{rolled_back}
use Rattle.kv_model.specs.Closing.{after_all, rolling_back}
use Rattle.kv_model.specs.History.{Entry, Commit, Prepare, Resolve, Table, Undo, Write, line, version_of, writes_at}
use Rattle.kv_model.specs.Machine.{Machine, Transaction, Phase, Running, Failed, Prepared, Resolving, Leaving, Event, OpenSession, BeginAt, DrawId, AcceptWrite, RefuseWrite, PrepareAt, CommitAt, StartLeaving, EndTransaction, PlaceCursor, CreateTable, SetStamps, RollbackToStable, CheckpointStart, CheckpointFinish, CheckpointDrop, GoDown, Nothing, after, appended, begun, decided, in_phase, left, name_in, name_of, of_some, prepared, stamped, transaction_of, written}
use Rattle.kv_model.proofs.Ordering.{line-writes}
use Rattle.snapshot.specs.Past.{is_below}
use Rattle.stored.specs.Stored.{Stored}
use Rattle.engine_world.specs.Systems.{checkpointed}
use Rattle.engine_world.specs.Worlds.{World}
use Rattle.row_page.specs.Rows.{Row}
use Rattle.reconcile.specs.Shows.{shown_at}
use Rattle.stored.specs.TableTree.{Entry as TreeEntry, TableTree}
use Rattle.stored.specs.Tree.{join}
use Rattle.tree_dir.specs.declared.leaf.Leaf.{Leaf}
use Rattle.ckpt_step.specs.Floors.{AreNewestBefore, FollowsFrom, GoesOn, IsAsItLies, IsLeafBefore, Respects, is_before, newest_before}
use Rattle.ckpt_step.specs.Parts.{AreBelowFloor, part_in, part_leaves, part_of}
use Rattle.ckpt_step.specs.Rooms.{Written}
use Rattle.ckpt_step.specs.Trees.{HasTreeAt}
use Rattle.ckpt_step.specs.declared.lives.Lone.{Lone}
use Rattle.ckpt_step.specs.Keeps.{IsOrdinaryEvent}

-- ---- names

-- of an earlier run, or of the same run with a lower id
abbrev pub Lower : Name → Name → Type 0
Lower x y = (x.run < y.run) ⊎ ((x.run ≡ y.run) × (x.id < y.id))

or_is : (b c : Bool) → b || c ≡ true → (b ≡ true) ⊎ (c ≡ true)
or_is true c is = inl refl
or_is false c is = inr is

pub lower_of : (x y : Name) → is_below x y ≡ true → Lower x y
lower_of x y is = elim (or_is (nat_lt x.run y.run) ((x.run == y.run) && nat_lt x.id y.id) is) [
  | inl less ↦ inl (ltb-true x.run y.run less)
  | inr same ↦ let both = and_parts (x.run == y.run) (nat_lt x.id y.id) same in inr (eqb-true x.run y.run both.0, ltb-true x.id y.id both.1)
]

-- ---- names that are not before a floor

pub not_before : (floor x : Name) → floor.run ≤ x.run → (floor.run ≡ x.run → (x.id ≡ 0) ⊎ (floor.id ≤ x.id)) → is_before floor x ≡ false
not_before floor x run id =
    let none_earlier : nat_lt x.run floor.run ≡ false = le-ltb x.run floor.run run in
    elim (cases_eq x.run floor.run) [
      | inr other ↦ let isnt = ne_eqb x.run floor.run other in rw (none_earlier, isnt) refl
      | inl same ↦ elim (id (sym same)) [
        | inl none ↦ let no_id : nat_lt 0 x.id ≡ false = le-ltb 0 x.id (omega (arith, none)) in rw (none_earlier, no_id) (and-false (x.run == floor.run))
        | inr past ↦ let over : nat_lt x.id floor.id ≡ false = le-ltb x.id floor.id past in rw (none_earlier, over, and-false (nat_lt 0 x.id)) (and-false (x.run == floor.run))
      ]
    ]

low_of : (m : Machine) (floor : Name) → Respects m floor → floor.run ≤ m.run
low_of m floor r = elim r.next [ inl less ↦ omega (arith, less) | inr same ↦ omega (arith, same.0) ]

-- the id that comes next, and no id
drawn_past : (m : Machine) (floor : Name) → Respects m floor → is_before floor (record { run = m.run; id = m.next }) ≡ false
drawn_past m floor r = not_before floor (record { run = m.run; id = m.next }) (low_of m floor r) (λ same. elim r.next [ inl less ↦ absurd (omega (arith, less, same)) | inr past ↦ inr past.1 ])

none_past : (m : Machine) (floor : Name) → Respects m floor → is_before floor (record { run = m.run; id = 0 }) ≡ false
none_past m floor r = not_before floor (record { run = m.run; id = 0 }) (low_of m floor r) (λ same. inl refl)

-- ---- transactions

-- the transaction, if there is one, has no name before the floor
abbrev IsPast : ℕ → Name → Option Transaction → Type 0
IsPast run floor o = MatchOption o (Unit {0}) (λ t. is_before floor (name_in run t) ≡ false)

past_set : (run : ℕ) (floor : Name) (xs : List (Option Transaction)) (i : ℕ) (o : Option Transaction) → ((k : ℕ) → IsPast run floor (get_or xs k None)) → IsPast run floor o → (k : ℕ) → IsPast run floor (get_or (set xs i o) k None)
past_set run floor [] i o each there k = each k
past_set run floor (x ∷ xs) zero o each there zero = there
past_set run floor (x ∷ xs) zero o each there (suc k) = each (suc k)
past_set run floor (x ∷ xs) (suc i) o each there zero = each zero
past_set run floor (x ∷ xs) (suc i) o each there (suc k) = past_set run floor xs i o (λ n. each (suc n)) there k

past_more : (run : ℕ) (floor : Name) (xs : List (Option Transaction)) → ((k : ℕ) → IsPast run floor (get_or xs k None)) → (k : ℕ) → IsPast run floor (get_or (xs ++ None ∷ []) k None)
past_more run floor [] each zero = tt
past_more run floor [] each (suc k) = each (suc k)
past_more run floor (x ∷ xs) each zero = each zero
past_more run floor (x ∷ xs) each (suc k) = past_more run floor xs (λ n. each (suc n)) k

-- a change that keeps the id
past_changed : (run : ℕ) (floor : Name) (change : Transaction → Transaction) (o : Option Transaction) → ((t : Transaction) → (change t).id ≡ t.id) → IsPast run floor o → IsPast run floor (option_map change o)
past_changed run floor change None same past = tt
past_changed run floor change (Some t) same past = subst (λ (n : ℕ). is_before floor (record { run = run; id = n }) ≡ false) (sym (same t)) past

-- ---- machines that go on

pub goes_same : (m : Machine) → GoesOn m m
goes_same m floor r = (r, λ table key. refl)

pub goes_on : (m middle next : Machine) → GoesOn m middle → GoesOn middle next → GoesOn m next
goes_on m middle next one two floor r =
    let first = one floor r in
    let second = two floor first.0 in
    (second.0, λ table key. second.1 table key ∙ first.1 table key)

-- the history is the same, and the transactions are past each floor
same_history : (m next : Machine) → next.run ≡ m.run → m.next ≤ next.next → ((floor : Name) → Respects m floor → (k : ℕ) → IsPast next.run floor (transaction_of next k)) → ((table : ℕ) (key : List ℕ) → line next.history table key ≡ line m.history table key) → GoesOn m next
same_history m next run more past history floor r = (
  record { next = elim r.next [ inl less ↦ inl (omega (arith, less, run)) | inr same ↦ inr (same.0 ∙ sym run, omega (arith, same.1, more)) ]; living = past floor r },
  λ table key. ap (newest_before floor) (history table key),
)

-- what a floor is about is the same
pub same_machine : (m next : Machine) → next.run ≡ m.run → next.next ≡ m.next → next.sessions ≡ m.sessions → next.history ≡ m.history → GoesOn m next
same_machine m next run id sessions history =
    same_history m next run (omega (arith, id))
    (λ floor r k. subst (λ (n : ℕ). IsPast n floor (transaction_of next k)) (sym run) (subst (λ (l : List (Option Transaction)). IsPast m.run floor (get_or l k None)) (sym sessions) (r.living k)))
    (λ table key. ap (λ (h : List Entry). line h table key) history)

-- one session's transaction is another, past each floor
one_session : (m : Machine) (session : ℕ) (o : Option Transaction) → ((floor : Name) → Respects m floor → IsPast m.run floor o) → (floor : Name) → Respects m floor → (k : ℕ) → IsPast m.run floor (get_or (set m.sessions session o) k None)
one_session m session o past floor r = past_set m.run floor m.sessions session o r.living (past floor r)

-- ---- commits

-- versions of a name that is not before the floor lie above
above_past : (floor name : Name) (writes : List Write) (l : List (Version Change)) → is_before floor name ≡ false → newest_before floor (map (version_of name) writes ++ l) ≡ newest_before floor l
above_past floor name [] l past = refl
above_past floor name (w ∷ writes) l past = rw past (above_past floor name writes l past)

commit_past : (floor name : Name) (writes stamps : List Write) (history : List Entry) (table : ℕ) (key : List ℕ) → is_before floor name ≡ false → newest_before floor (line (appended writes (Commit name stamps) history) table key) ≡ newest_before floor (line history table key)
commit_past floor name [] stamps history table key past = refl
commit_past floor name (w ∷ writes) stamps history table key past = ap (newest_before floor) (line-writes name stamps history table key) ∙ above_past floor name (filter (writes_at table key) stamps) (line history table key) past

resolve_past : (floor name : Name) (writes stamps : List Write) (history : List Entry) (table : ℕ) (key : List ℕ) → is_before floor name ≡ false → newest_before floor (line (appended writes (Resolve name stamps) history) table key) ≡ newest_before floor (line history table key)
resolve_past floor name [] stamps history table key past = refl
resolve_past floor name (w ∷ writes) stamps history table key past = ap (newest_before floor) (line-writes name stamps history table key) ∙ above_past floor name (filter (writes_at table key) stamps) (line history table key) past

-- what is prepared does not stand
prepare_line : (name : Name) (stamp : ℕ) (writes : List Write) (history : List Entry) (table : ℕ) (key : List ℕ) → line (appended writes (Prepare name stamp) history) table key ≡ line history table key
prepare_line name stamp [] history table key = refl
prepare_line name stamp (w ∷ writes) history table key = refl

undo_line : (name : Name) (writes : List Write) (history : List Entry) (table : ℕ) (key : List ℕ) → line (appended writes (Undo name) history) table key ≡ line history table key
undo_line name [] history table key = refl
undo_line name (w ∷ writes) history table key = refl

-- a session's transaction gives way to another of its name, or to none, and its commit is added
module _ (m : Machine) (session commit durable : ℕ) (t : Transaction) (past : (floor : Name) → Respects m floor → is_before floor (name_of m t) ≡ false) where
  ended_goes : GoesOn m (decided Running m session commit durable t)
  ended_goes floor r = (
    record { next = r.next; living = past_set m.run floor m.sessions session None r.living tt },
    λ table key. commit_past floor (name_of m t) t.writes (stamped commit durable t.writes) m.history table key (past floor r),
  )

  resolved_goes : (stamp : ℕ) → GoesOn m (decided (Prepared stamp) m session commit durable t)
  resolved_goes stamp floor r = (
    record { next = r.next; living = past_set m.run floor m.sessions session (Some (in_phase Resolving t)) r.living (past floor r) },
    λ table key. resolve_past floor (name_of m t) t.writes (stamped commit durable t.writes) m.history table key (past floor r),
  )

  decided_goes : (p : Phase) → GoesOn m (decided p m session commit durable t)
  decided_goes Running = ended_goes
  decided_goes Failed = ended_goes
  decided_goes (Prepared stamp) = resolved_goes stamp
  decided_goes Resolving = ended_goes
  decided_goes Leaving = ended_goes

  -- the transaction is in another phase, and the history has no version more
  phase_goes : (p : Phase) (history : List Entry) → ((table : ℕ) (key : List ℕ) → line history table key ≡ line m.history table key)
      → GoesOn m (record m { sessions = set m.sessions session (Some (in_phase p t)); history = history })
  phase_goes p history lines = same_history m (record m { sessions = set m.sessions session (Some (in_phase p t)); history = history }) refl (omega arith) (one_session m session (Some (in_phase p t)) past) lines

  left_goes : (p : Phase) → GoesOn m (left p m session t)
  left_goes Running = phase_goes Leaving m.history (λ table key. refl)
  left_goes Failed = phase_goes Leaving m.history (λ table key. refl)
  left_goes (Prepared stamp) = phase_goes Resolving (appended t.writes (Undo (name_of m t)) m.history) (undo_line (name_of m t) t.writes m.history)
  left_goes Resolving = goes_same m
  left_goes Leaving = phase_goes Leaving m.history (λ table key. refl)

  prepared_goes : (stamp : ℕ) → GoesOn m (prepared m session stamp t)
  prepared_goes stamp = phase_goes (Prepared stamp) (appended t.writes (Prepare (name_of m t) stamp) m.history) (prepare_line (name_of m t) stamp t.writes m.history)

-- so where there may be no transaction
of_session : (m : Machine) (f : Transaction → Machine) (o : Option Transaction) → ((floor : Name) → Respects m floor → IsPast m.run floor o) → ((t : Transaction) → ((floor : Name) → Respects m floor → is_before floor (name_of m t) ≡ false) → GoesOn m (f t)) → GoesOn m (of_some m f o)
of_session m f None past each = goes_same m
of_session m f (Some t) past each = each t past

-- ---- events

-- a session's transaction is changed, and keeps its id
changing_goes : (m : Machine) (session : ℕ) (change : Transaction → Transaction) → ((t : Transaction) → (change t).id ≡ t.id) → GoesOn m (record m { sessions = set m.sessions session (option_map change (transaction_of m session)) })
changing_goes m session change same =
    same_history m (record m { sessions = set m.sessions session (option_map change (transaction_of m session)) }) refl (omega arith)
    (one_session m session (option_map change (transaction_of m session)) (λ floor r. past_changed m.run floor change (transaction_of m session) same (r.living session))) (λ table key. refl)

draw_past : (m : Machine) (floor : Name) (o : Option Transaction) → Respects m floor → IsPast m.run floor (option_map (λ (t : Transaction). record t { id = m.next }) o)
draw_past m floor None r = tt
draw_past m floor (Some t) r = drawn_past m floor r

pub goes_after : (m : Machine) (event : Event) → IsOrdinaryEvent event → GoesOn m (after m event)
goes_after m OpenSession ordinary = same_history m (after m OpenSession) refl (omega arith) (λ floor r. past_more m.run floor m.sessions r.living) (λ table key. refl)
goes_after m (BeginAt session read) ordinary = same_history m (after m (BeginAt session read)) refl (omega arith) (one_session m session (Some (begun m read)) (λ floor r. none_past m floor r)) (λ table key. refl)
goes_after m (DrawId session) ordinary =
    same_history m (after m (DrawId session)) refl (omega arith) (one_session m session (option_map (λ (t : Transaction). record t { id = m.next }) (transaction_of m session)) (λ floor r. draw_past m floor (transaction_of m session) r)) (λ table key. refl)
goes_after m (AcceptWrite session table key change) ordinary = changing_goes m session (written table key change) (λ t. refl)
goes_after m (RefuseWrite session) ordinary = changing_goes m session (in_phase Failed) (λ t. refl)
goes_after m (PrepareAt session stamp) ordinary = of_session m (prepared m session stamp) (transaction_of m session) (λ floor r. r.living session) (λ t past. prepared_goes m session 0 0 t past stamp)
goes_after m (CommitAt session commit durable) ordinary =
    of_session m (λ (t : Transaction). decided t.phase m session commit durable t) (transaction_of m session) (λ floor r. r.living session) (λ t past. decided_goes m session commit durable t past t.phase)
goes_after m (StartLeaving session) ordinary = of_session m (λ (t : Transaction). left t.phase m session t) (transaction_of m session) (λ floor r. r.living session) (λ t past. left_goes m session 0 0 t past t.phase)
goes_after m (EndTransaction session) ordinary = same_history m (after m (EndTransaction session)) refl (omega arith) (one_session m session None (λ floor r. tt)) (λ table key. refl)
goes_after m (PlaceCursor session cursor position) ordinary = same_history m (after m (PlaceCursor session cursor position)) refl (omega arith) (λ floor r. r.living) (λ table key. refl)
goes_after m (CreateTable table) ordinary = same_history m (after m (CreateTable table)) refl (omega arith) (λ floor r. r.living) (λ number key. refl)
goes_after m (SetStamps oldest stable) ordinary = same_history m (after m (SetStamps oldest stable)) refl (omega arith) (λ floor r. r.living) (λ table key. refl)
goes_after m RollbackToStable ordinary = absurd ordinary
goes_after m CheckpointStart ordinary = absurd ordinary
goes_after m CheckpointFinish ordinary = absurd ordinary
goes_after m CheckpointDrop ordinary = absurd ordinary
goes_after m (GoDown fault) ordinary = absurd ordinary
goes_after m Nothing ordinary = goes_same m

-- ---- a close that rolls back

rolls_on : (m : Machine) (at : ℕ) (sessions : List (Option Transaction)) → GoesOn m (after_all m (rolling_back at sessions))
rolls_on m at [] = goes_same m
rolls_on m at (None ∷ later) = rolls_on m (at + 1) later
rolls_on m at (Some t ∷ later) =
    let leaves = after m (StartLeaving at) in
    let ends = after leaves (EndTransaction at) in
    let one = goes_on m leaves ends (goes_after m (StartLeaving at) tt) (goes_after leaves (EndTransaction at) tt) in
    goes_on m ends (after_all ends (rolling_back (at + 1) later)) one (rolls_on ends (at + 1) later)

pub goes_rolled : (m : Machine) → GoesOn m (rolled_back m)
goes_rolled m = rolls_on m 0 m.sessions

-- ---- over what goes on

before_goes : (leaves : List Leaf) (written : Written) (floor : Name) (w v : World) (table : ℕ) (l : Leaf) (rows : List Row) → ((table : ℕ) (key : List ℕ) → newest_before floor (line v.machine.history table key) ≡ newest_before floor (line w.machine.history table key)) → v.shelf ≡ w.shelf
    → IsLeafBefore w.machine w.shelf floor leaves written table l rows → IsLeafBefore v.machine v.shelf floor leaves written table l rows
before_goes leaves written floor w v table l rows newest shelf own = record {
  before = λ part is below key under. newest table key ∙ own.before part is below key under;
  same = λ lies. own.same lies ∙ ap (λ (s : ℕ → List Row). s l.id) (sym shelf);
}

pub follows_goes : (old : Option Stored) (known : List Table) (lives : List Lone) (leaves : List Leaf) (written : Written) (places : List TreePlace) (floor : Name) (w v : World) → GoesOn w.machine v.machine → v.shelf ≡ w.shelf → FollowsFrom old known lives leaves written places floor w → FollowsFrom old known lives leaves written places floor v
follows_goes old known lives leaves written places floor w v goes shelf follows =
    let on = goes floor follows.respects in
    record {
      respects = on.0;
      leaf = λ i t place tree l at stands has there its dead. before_goes leaves written floor w v t.number l _ on.1 shelf (follows.leaf i t place tree l at stands has there its dead);
      since = λ l there live.
          subst (λ (rows : List Row). IsLeafBefore v.machine v.shelf floor leaves written l.table l rows) (ap (λ (s : ℕ → List Row). s l.id) (sym shelf))
          (before_goes leaves written floor w v l.table l (w.shelf l.id) on.1 shelf (follows.since l there live));
    }

-- the floor with which an engine begins
abbrev pub no_floor : Name
no_floor = record { run = 0; id = 0 }

none_before : (x : Name) → is_before no_floor x ≡ false
none_before x = not_before no_floor x (omega arith) (λ same. inr (omega arith))

none_newest : (l : List (Version Change)) → newest_before no_floor l ≡ None
none_newest [] = refl
none_newest (v ∷ older) = let none : is_before no_floor v.window.name ≡ false = none_before v.window.name in rw none (none_newest older)

-- of the leaves that are as they lie what they are loaded from is all that is asked
abbrev pub AreShelved : Option Stored → List Table → List Leaf → Written → List TreePlace → World → Type 0
AreShelved old known leaves written places w =
    (i : ℕ) (t : Table) (place : TreePlace) (tree : TableTree) (l : Leaf) → slice_get known i ≡ Some t → slice_get places i ≡ Some place → HasTreeAt old t place tree → Contains leaves l → l.table ≡ t.number → IsAsItLies written l → join (part_leaves place tree (part_of written l)) ≡ w.shelf l.id

-- no leaf in a frame is clean before the first checkpoint
pub follows_none : (old : Option Stored) (known : List Table) (leaves : List Leaf) (written : Written) (places : List TreePlace) (w : World) → AreShelved old known leaves written places w → FollowsFrom old known [] leaves written places no_floor w
follows_none old known leaves written places w shelved = record {
  respects = record { next = elim (cases_lt 0 w.machine.run) [ inl more ↦ inl more | inr none ↦ inr (omega (arith, none), omega arith) ]; living = λ session. each (transaction_of w.machine session) };
  leaf = λ i t place tree l at stands has there its dead. record {
    before = λ part is below. nothing t.number l place tree part (part_is written l part is) below;
    same = shelved i t place tree l at stands has there its;
  };
  since = λ l there live. absurd (false≢true live);
}
  where
    each : (o : Option Transaction) → MatchOption o (Unit {0}) (λ t. is_before no_floor (name_of w.machine t) ≡ false)
    each None = tt
    each (Some t) = none_before (name_of w.machine t)

    under : (x : Name) → Lower x no_floor → ⊥
    under x (inl less) = omega (arith, less)
    under x (inr less) = omega (arith, less.1)

    part_is : (written : Written) (l : Leaf) (part : List TreeEntry) → part_in written l ≡ Some part → part_of written l ≡ part
    part_is written l part is = ap (λ (o : Option (List TreeEntry)). of_some [] (λ (es : List TreeEntry). es) o) is

    nothing : (table : ℕ) (l : Leaf) (place : TreePlace) (tree : TableTree) (part : List TreeEntry) → part_of written l ≡ part → AreBelowFloor no_floor part → AreNewestBefore w.machine no_floor leaves table l (join (part_leaves place tree (part_of written l)))
    nothing table l place tree [] is below key found = none_newest (line w.machine.history table key) ∙ ap (λ (es : List TreeEntry). shown_at key (join (part_leaves place tree es))) (sym is)
    nothing table l place tree (e ∷ part) is below key found = absurd (under e.link.greatest (lower_of e.link.greatest no_floor below.0))

pub checkpointed_goes : (m : Machine) → GoesOn m (checkpointed m)
checkpointed_goes m = same_machine m (checkpointed m) refl refl refl refl
