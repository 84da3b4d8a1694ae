-- What the events of a session leave to the other sessions.
use Rattle.std.proofs.Common.{◌≡◌, ◌≢◌, ◌<◌, ◌+◌, ℕ, true, refl, ap, sym, ◌∙◌, List, [], ◌∷◌, ◌++◌, length, inl, inr, subst, map}
use Rattle.std.specs.Prelude.{Option, Some, None, filter, option_map, slice_set}
use Rattle.std.proofs.lemmas.List.{get_or-set_other, length-set}
use Rattle.item.specs.declared.Change.{Change}
use Rattle.stamp.specs.declared.Name.{Name}
use Rattle.stamp.specs.declared.Version.{Version}
use Rattle.kv_model.specs.Holds.{Member}
use Rattle.kv_model.specs.History.{Entry, Commit, Prepare, Resolve, Undo, line, version_of, writes_at}
use Rattle.kv_model.specs.Machine.{Machine, Transaction, Phase, Running, Failed, Prepared, Resolving, Leaving, Position, Event, BeginAt, DrawId, AcceptWrite, RefuseWrite, PrepareAt, CommitAt, StartLeaving, EndTransaction, PlaceCursor, Nothing, transaction_of, cursors_of, name_of, after, of_some, with_transaction, without_transaction, no_cursors, begun, written, in_phase, prepared, decided, left, appended, stamped}
use Rattle.kv_model.specs.Allowed.{Allowed, CommitsAt}
use Rattle.kv_model.specs.Elsewhere.{IsOfOthers}
use Rattle.kv_model.specs.Pending.{NoneOf}
use Rattle.kv_model.specs.Reads.{own_write, is_own, IsEnding}
use Rattle.kv_model.specs.Valid.{Valid}
use Rattle.kv_model.proofs.Committing.{lines-apart}
use Rattle.kv_model.proofs.Finishing.{member-append, named-so}
use Rattle.kv_model.proofs.Onward.{Grew, history-grew, run-after, session-stays}
use Rattle.kv_model.proofs.RowRanges.{value-goes-on}
use Rattle.tree_dir.specs.declared.leaf.Leaf.{Leaf}
use Rattle.call_steps.specs.declared.frame.FramePiece.{FramePiece}
use Rattle.call_steps.specs.declared.hub.Hub.{Hub}
use Rattle.engine_world.proofs.Beside.{Beside, MachineApart, MachineBeside, IsEventOf, SlotsStay, OthersAtHome, OthersUpdates}

-- ---- all but the history and the transactions

record PlainBeside (session : ℕ) (m next : Machine) : Type 0 where
  fault : next.fault ≡ m.fault
  oldest : next.oldest ≡ m.oldest
  stable : next.stable ≡ m.stable
  count : length next.sessions ≡ length m.sessions
  cursors : (r : ℕ) → r ≢ session → cursors_of next r ≡ cursors_of m r

plain-same : (s : ℕ) (m : Machine) → PlainBeside s m m
plain-same s m = record { fault = refl; oldest = refl; stable = refl; count = refl; cursors = λ r other. refl }

plain-set : (s : ℕ) (m : Machine) (o : Option Transaction) (history : List Entry) (next : ℕ) → PlainBeside s m (record (with_transaction m s o) { history = history; next = next })
plain-set s m o history next = record { fault = refl; oldest = refl; stable = refl; count = length-set m.sessions s o; cursors = λ r other. refl }

plain-gone : (s : ℕ) (m : Machine) (history : List Entry) → PlainBeside s m (record (without_transaction m s) { history = history })
plain-gone s m history = record {
  fault = refl;
  oldest = refl;
  stable = refl;
  count = length-set m.sessions s None;
  cursors = λ r other. get_or-set_other m.cursors s r no_cursors [] other;
}

plain-placed : (s : ℕ) (m : Machine) (cursors : List (Option Position)) → PlainBeside s m (record m { cursors = slice_set m.cursors s cursors })
plain-placed s m cursors = record { fault = refl; oldest = refl; stable = refl; count = refl; cursors = λ r other. get_or-set_other m.cursors s r cursors [] other }

plain-decided : (s commit durable : ℕ) (m : Machine) (t : Transaction) (p : Phase) → PlainBeside s m (decided p m s commit durable t)
plain-decided s commit durable m t (Prepared p) = plain-set s m (Some (in_phase Resolving t)) (appended t.writes (Resolve (name_of m t) (stamped commit durable t.writes)) m.history) m.next
plain-decided s commit durable m t Running = plain-gone s m (appended t.writes (Commit (name_of m t) (stamped commit durable t.writes)) m.history)
plain-decided s commit durable m t Failed = plain-gone s m (appended t.writes (Commit (name_of m t) (stamped commit durable t.writes)) m.history)
plain-decided s commit durable m t Resolving = plain-gone s m (appended t.writes (Commit (name_of m t) (stamped commit durable t.writes)) m.history)
plain-decided s commit durable m t Leaving = plain-gone s m (appended t.writes (Commit (name_of m t) (stamped commit durable t.writes)) m.history)

plain-left : (s : ℕ) (m : Machine) (t : Transaction) (p : Phase) → PlainBeside s m (left p m s t)
plain-left s m t (Prepared p) = plain-set s m (Some (in_phase Resolving t)) (appended t.writes (Undo (name_of m t)) m.history) m.next
plain-left s m t Running = plain-set s m (Some (in_phase Leaving t)) m.history m.next
plain-left s m t Failed = plain-set s m (Some (in_phase Leaving t)) m.history m.next
plain-left s m t Resolving = plain-same s m
plain-left s m t Leaving = plain-set s m (Some (in_phase Leaving t)) m.history m.next

-- where the session has a transaction
plain-if : (s : ℕ) (m : Machine) (f : Transaction → Machine) → ((t : Transaction) → PlainBeside s m (f t)) → (o : Option Transaction) → PlainBeside s m (of_some m f o)
plain-if s m f each None = plain-same s m
plain-if s m f each (Some t) = each t

plain-after : (session : ℕ) (m : Machine) (event : Event) → IsEventOf session event → PlainBeside session m (after m event)
plain-after session m (BeginAt s read) of = subst (λ i. PlainBeside i m (after m (BeginAt s read))) of (plain-set s m (Some (begun m read)) m.history m.next)
plain-after session m (DrawId s) of = subst (λ i. PlainBeside i m (after m (DrawId s))) of (plain-set s m (option_map (λ (t : Transaction). record t { id = m.next }) (transaction_of m s)) m.history (m.next + 1))
plain-after session m (AcceptWrite s table key change) of = subst (λ i. PlainBeside i m (after m (AcceptWrite s table key change))) of
    (plain-set s m (option_map (written table key change) (transaction_of m s)) m.history m.next)
plain-after session m (RefuseWrite s) of = subst (λ i. PlainBeside i m (after m (RefuseWrite s))) of (plain-set s m (option_map (in_phase Failed) (transaction_of m s)) m.history m.next)
plain-after session m (PrepareAt s stamp) of = subst (λ i. PlainBeside i m (after m (PrepareAt s stamp))) of
    (plain-if s m (prepared m s stamp) (λ t. plain-set s m (Some (in_phase (Prepared stamp) t)) (appended t.writes (Prepare (name_of m t) stamp) m.history) m.next) (transaction_of m s))
plain-after session m (CommitAt s commit durable) of = subst (λ i. PlainBeside i m (after m (CommitAt s commit durable))) of
    (plain-if s m (λ t. decided t.phase m s commit durable t) (λ t. plain-decided s commit durable m t t.phase) (transaction_of m s))
plain-after session m (StartLeaving s) of = subst (λ i. PlainBeside i m (after m (StartLeaving s))) of
    (plain-if s m (λ t. left t.phase m s t) (λ t. plain-left s m t t.phase) (transaction_of m s))
plain-after session m (EndTransaction s) of = subst (λ i. PlainBeside i m (after m (EndTransaction s))) of (plain-gone s m m.history)
plain-after session m (PlaceCursor s cursor position) of = subst (λ i. PlainBeside i m (after m (PlaceCursor s cursor position))) of
    (plain-placed s m (slice_set (cursors_of m s) cursor position))
plain-after session m Nothing of = plain-same session m
plain-after session m _ of = absurd of

-- ---- the lines

record LinesBeside (session : ℕ) (m : Machine) (history : List Entry) : Type 0 where
  held : (r : ℕ) (t : Transaction) (table : ℕ) (key : List ℕ) → r ≢ session → transaction_of m r ≡ Some t → (IsEnding t.phase → ⊥) → is_own (own_write t table key) ≡ true
      → line history table key ≡ line m.history table key
  grown : (table : ℕ) (key : List ℕ) (v : Version Change) → Member v (line m.history table key) → Member v (line history table key)
  none : (r : ℕ) (t : Transaction) (table : ℕ) (key : List ℕ) → r ≢ session → transaction_of m r ≡ Some t → 0 < t.id
      → NoneOf (name_of m t) (line m.history table key) → NoneOf (name_of m t) (line history table key)

lines-same : (session : ℕ) (m : Machine) (history : List Entry) → ((table : ℕ) (key : List ℕ) → line history table key ≡ line m.history table key) → LinesBeside session m history
lines-same session m history same = record {
  held = λ r t table key other there alive own. same table key;
  grown = λ table key v member. subst (λ l. Member v l) (sym (same table key)) member;
  none = λ r t table key other there drawn none. subst (λ l. NoneOf (name_of m t) l) (sym (same table key)) none;
}

member-later : {A : Type 0} (x : A) (l rest : List A) → Member x rest → Member x (l ++ rest)
member-later x [] rest there = there
member-later x (y ∷ ys) rest there = inr (member-later x ys rest there)

-- the versions of one key that a commit at these stamps makes
abbrev made_of : Machine → Transaction → ℕ → ℕ → ℕ → List ℕ → List (Version Change)
made_of m t commit durable table key = map (version_of (name_of m t)) (filter (writes_at table key) (stamped commit durable t.writes))

lines-committed : (s commit durable : ℕ) (m : Machine) (t : Transaction) (history : List Entry) → Valid m → transaction_of m s ≡ Some t → (IsEnding t.phase → ⊥)
    → ((table : ℕ) (key : List ℕ) → line history table key ≡ made_of m t commit durable table key ++ line m.history table key) → LinesBeside s m history
lines-committed s commit durable m t history v there busy lines = record {
  held = λ r x table key other at alive own. lines table key ∙ lines-apart m s t commit durable v there busy r x other at alive table key own;
  grown = λ table key x member. subst (λ l. Member x l) (sym (lines table key)) (member-later x (made_of m t commit durable table key) (line m.history table key) member);
  none = λ r x table key other at drawn none y member named.
      elim (member-append y (made_of m t commit durable table key) (line m.history table key) (subst (λ l. Member y l) (lines table key) member)) [
        | inl new ↦ v.sessions.distinct r s x t at there other drawn
            (ap (λ (n : Name). n.id) (sym named ∙ named-so (name_of m t) (filter (writes_at table key) (stamped commit durable t.writes)) y new))
        | inr old ↦ none y old named
      ];
}

commits-alive : (p : Phase) (commit durable : ℕ) → CommitsAt p commit durable → IsEnding p → ⊥
commits-alive Running commit durable at ending = ending
commits-alive Failed commit durable at ending = ending
commits-alive (Prepared stamp) commit durable at ending = ending
commits-alive Resolving commit durable at ending = at
commits-alive Leaving commit durable at ending = at

lines-after : (session : ℕ) (m : Machine) (event : Event) → Valid m → IsEventOf session event → (history : List Entry) → Grew m event history → LinesBeside session m history
lines-after session m event v of history (inl same) = lines-same session m history (λ table key. ap (λ h. line h table key) same)
lines-after session m event v of history (inr (inl quiet)) = lines-same session m history (λ table key. ap (λ h. line h table key) quiet.is ∙ quiet.lines table key)
lines-after session m event v of history (inr (inr (inl c))) = subst (λ i. LinesBeside i m history) (subst (IsEventOf session) c.by of)
    (lines-committed c.session c.commit c.durable m c.transaction history v c.there (commits-alive c.transaction.phase c.commit c.durable c.may)
    (λ table key. ap (λ h. line h table key) c.is ∙ c.lines table key))
lines-after session m event v of history (inr (inr (inr rolled))) = absurd (subst (IsEventOf session) rolled of)

-- ---- one event

of-others : (session r : ℕ) (event : Event) → IsEventOf session event → r ≢ session → IsOfOthers r event
of-others session r (BeginAt s read) of other = λ e. other (sym e ∙ of)
of-others session r (DrawId s) of other = λ e. other (sym e ∙ of)
of-others session r (AcceptWrite s table key change) of other = λ e. other (sym e ∙ of)
of-others session r (RefuseWrite s) of other = λ e. other (sym e ∙ of)
of-others session r (PrepareAt s stamp) of other = λ e. other (sym e ∙ of)
of-others session r (CommitAt s commit durable) of other = λ e. other (sym e ∙ of)
of-others session r (StartLeaving s) of other = λ e. other (sym e ∙ of)
of-others session r (EndTransaction s) of other = λ e. other (sym e ∙ of)
of-others session r _ of other = tt

pub event-beside : (session : ℕ) (m : Machine) (event : Event) → Valid m → Allowed m event → IsEventOf session event → MachineBeside session m (after m event)
event-beside session m event valid may of = record {
  apart = record {
    run = run-after m event;
    fault = plain.fault;
    others = λ r other. session-stays m event r may (of-others session r event of other);
    cursors = plain.cursors;
    held = lines.held;
    grown = lines.grown;
    none = lines.none;
    absent = λ r t table key other there reads. value-goes-on m event r t table key None valid may there (of-others session r event of other) reads;
  };
  oldest = plain.oldest;
  stable = plain.stable;
  count = plain.count;
} where
  plain : PlainBeside session m (after m event)
  plain = plain-after session m event of

  lines : LinesBeside session m (after m event).history
  lines = lines-after session m event valid of (after m event).history (history-grew m event valid may)

-- ---- one after another

apart-then : (session : ℕ) (m middle next : Machine) → MachineApart session m middle → MachineApart session middle next → MachineApart session m next
apart-then session m middle next v w = record {
  run = w.run ∙ v.run;
  fault = w.fault ∙ v.fault;
  others = λ r other. w.others r other ∙ v.others r other;
  cursors = λ r other. w.cursors r other ∙ v.cursors r other;
  held = λ r t table key other there alive own. w.held r t table key other (v.others r other ∙ there) alive own ∙ v.held r t table key other there alive own;
  grown = λ table key x member. w.grown table key x (v.grown table key x member);
  none = λ r t table key other there drawn none. subst (λ run. NoneOf (record { run = run; id = t.id }) (line next.history table key)) v.run
      (w.none r t table key other (v.others r other ∙ there) drawn (subst (λ run. NoneOf (record { run = run; id = t.id }) (line middle.history table key)) (sym v.run) (v.none r t table key other there drawn none)));
  absent = λ r t table key other there reads. w.absent r t table key other (v.others r other ∙ there) (v.absent r t table key other there reads);
}

pub beside-then : (session : ℕ) (m middle next : Machine) → MachineBeside session m middle → MachineBeside session middle next → MachineBeside session m next
beside-then session m middle next v w = record {
  apart = apart-then session m middle next v.apart w.apart;
  oldest = w.oldest ∙ v.oldest;
  stable = w.stable ∙ v.stable;
  count = w.count ∙ v.count;
}

pub apart-same : (session : ℕ) (m : Machine) → MachineApart session m m
apart-same session m = record {
  run = refl;
  fault = refl;
  others = λ r other. refl;
  cursors = λ r other. refl;
  held = λ r t table key other there live own. refl;
  grown = λ table key v member. member;
  none = λ r t table key other there drawn none. none;
  absent = λ r t table key other there reads. reads;
}

pub beside-same : (session : ℕ) (m : Machine) → MachineBeside session m m
beside-same session m = record { apart = apart-same session m; oldest = refl; stable = refl; count = refl }

-- ---- the frames and the hub

pub slots-same : (pieces : List FramePiece) → SlotsStay pieces pieces
slots-same pieces = record { generations = λ frame. refl; tables = λ frame. refl; slots = λ frame key i at. at }

pub updates-same : (m : Machine) (session : ℕ) (pieces : List FramePiece) → OthersUpdates m session pieces pieces
updates-same m session pieces r t other there drawn frame key u member named = member

pub at-home : (freed : Option ℕ) (m : Machine) (session : ℕ) (leaves : List Leaf) (pieces later : List FramePiece) → OthersUpdates m session pieces later → OthersAtHome freed m session leaves pieces later
at-home freed m session leaves pieces later updates r t other there drawn table key frame home stays u member named = updates r t other there drawn frame key u member named

-- the frames and the hub stay
pub all-same : (session : ℕ) (m next : Machine) (hub : Hub) (pieces : List FramePiece) → MachineBeside session m next → Beside session m next hub hub pieces pieces
all-same session m next hub pieces machine = record {
  machine = machine;
  tables = refl;
  dir = refl;
  seats = refl;
  phases = λ r other. refl;
  slots = slots-same pieces;
  updates = updates-same m session pieces;
}
