-- What is past goes on to be past.
use Rattle.std.proofs.Common.{◌≡◌, ◌⊎◌, ◌≤◌, ℕ, refl, sym, ◌∙◌, false, ◌&&◌, List, [], ◌∷◌, ◌++◌, inl, inr, subst, map, arith}
use Rattle.std.specs.Prelude.{Option, Some, None, filter, nat_lt, ◌==◌, if◌then◌else◌}
use Rattle.std.proofs.lemmas.Bool.{cases_Bool, both_ways, and_parts, or_cases, ltb-true}
use Rattle.item.specs.declared.Change.{Change}
use Rattle.stamp.specs.declared.Name.{Name}
use Rattle.stamp.specs.declared.Version.{Version}
use Rattle.kv_model.specs.Holds.{Member}
use Rattle.kv_model.specs.History.{Entry, Commit, Prepare, Resolve, Undo, Rts, Write, line, version_of, writes_at, is_by}
use Rattle.kv_model.specs.Machine.{Machine, Transaction, Phase, Running, Failed, Prepared, Resolving, Leaving, Checkpoint, Event, transaction_of, name_of, after, of_some, prepared, decided, left, finished, appended, stamped, OpenSession, BeginAt, DrawId, AcceptWrite, RefuseWrite, PrepareAt, CommitAt, StartLeaving, EndTransaction, PlaceCursor, CreateTable, SetStamps, RollbackToStable, CheckpointStart, CheckpointFinish, CheckpointDrop, GoDown, Nothing}
use Rattle.kv_model.specs.Valid.{Valid}
use Rattle.kv_model.proofs.Agrees.{line-rts}
use Rattle.kv_model.proofs.Capturing.{member-out}
use Rattle.kv_model.proofs.Finishing.{member-append, named-so}
use Rattle.kv_model.proofs.Meetings.{appended-either}
use Rattle.kv_model.proofs.Ordering.{line-writes}
use Rattle.kv_model.proofs.Pins.{covers-after}
use Rattle.kv_model.proofs.Releases.{false-from}
use Rattle.kv_model.proofs.Releasing.{drawn-by-write}
use Rattle.snapshot.specs.Matters.{IsLive}
use Rattle.snapshot.proofs.GoingOn.{Follows, follows-after}
use Rattle.snapshot.specs.Past.{is_below}
use Rattle.update_chain.specs.EventLaws.{PastsGoOn}
use Rattle.update_chain.proofs.Meeting.{counts-writes}

module _ (m : Machine) (table : ℕ) (key : List ℕ) (v : Version Change) (valid : Valid m) where
  -- what stands stood before, or is of a transaction that had not ended
  abbrev From : List Entry → Type 0
  From history = Member v (line history table key) → Member v (line m.history table key) ⊎ IsLive m v.window.name

  live-by : (s : ℕ) (t : Transaction) (w : Write) → transaction_of m s ≡ Some t → Member w t.writes → IsLive m (name_of m t)
  live-by s t w there has = by-writes t.writes refl has where
    by-writes : (writes : List Write) → t.writes ≡ writes → Member w writes → IsLive m (name_of m t)
    by-writes [] is has = absurd has
    by-writes (o ∷ writes) is has = record {
      session = s;
      transaction = t;
      there = there;
      drawn = drawn-by-write m.run m.next m.history t o writes (valid.sessions.each s t there) is;
      name = refl;
      counts = counts-writes t.phase t (w, subst (Member w) (sym is) has);
    }

  from-writes : (s commit durable : ℕ) (t : Transaction) (entry : Entry) → transaction_of m s ≡ Some t
      → (line (entry ∷ m.history) table key ≡ map (version_of (name_of m t)) (filter (writes_at table key) (stamped commit durable t.writes)) ++ line m.history table key) → From (appended t.writes entry m.history)
  from-writes s commit durable t entry there is = appended-either From t.writes entry m.history (λ at. inl at)
      (λ w has at. elim (member-append v (map (version_of (name_of m t)) (filter (writes_at table key) (stamped commit durable t.writes))) (line m.history table key) (subst (Member v) is at)) [
        | inl new ↦ inr (subst (IsLive m) (sym (named-so (name_of m t) (filter (writes_at table key) (stamped commit durable t.writes)) v new)) (live-by s t w there has))
        | inr old ↦ inl old
      ])

  from-decided : (s commit durable : ℕ) (t : Transaction) (p : Phase) → transaction_of m s ≡ Some t → From (decided p m s commit durable t).history
  from-decided s commit durable t (Prepared p) there = from-writes s commit durable t (Resolve (name_of m t) (stamped commit durable t.writes)) there (line-writes (name_of m t) (stamped commit durable t.writes) m.history table key)
  from-decided s commit durable t Running there = from-writes s commit durable t (Commit (name_of m t) (stamped commit durable t.writes)) there (line-writes (name_of m t) (stamped commit durable t.writes) m.history table key)
  from-decided s commit durable t Failed there = from-writes s commit durable t (Commit (name_of m t) (stamped commit durable t.writes)) there (line-writes (name_of m t) (stamped commit durable t.writes) m.history table key)
  from-decided s commit durable t Resolving there = from-writes s commit durable t (Commit (name_of m t) (stamped commit durable t.writes)) there (line-writes (name_of m t) (stamped commit durable t.writes) m.history table key)
  from-decided s commit durable t Leaving there = from-writes s commit durable t (Commit (name_of m t) (stamped commit durable t.writes)) there (line-writes (name_of m t) (stamped commit durable t.writes) m.history table key)

  from-left : (s : ℕ) (t : Transaction) (p : Phase) → From (left p m s t).history
  from-left s t (Prepared p) at = appended-either From t.writes (Undo (name_of m t)) m.history (λ a. inl a) (λ w has a. inl a) at
  from-left s t Running at = inl at
  from-left s t Failed at = inl at
  from-left s t Resolving at = inl at
  from-left s t Leaving at = inl at

  from-there : (s : ℕ) (f : Transaction → Machine) → ((t : Transaction) → transaction_of m s ≡ Some t → From (f t).history) → From (of_some m f (transaction_of m s)).history
  from-there s f each = by-seat (transaction_of m s) refl where
    by-seat : (o : Option Transaction) → transaction_of m s ≡ o → From (of_some m f (transaction_of m s)).history
    by-seat None there = subst (λ o. From (of_some m f o).history) (sym there) (λ at. inl at)
    by-seat (Some t) there = subst (λ o. From (of_some m f o).history) (sym there) (each t there)

  from-rollback : From (after m RollbackToStable).history
  from-rollback = elim (cases_Bool (m.stable == 0)) [
    | inl unset ↦ subst (λ b. From (if b then m.history else Rts m.stable ∷ m.history)) (sym unset) (λ at. inl at)
    | inr is ↦ subst (λ b. From (if b then m.history else Rts m.stable ∷ m.history)) (sym is) (λ at. inl (member-out (is_by m.stable) (line m.history table key) v (subst (Member v) (line-rts m.stable m.history table key) at)).0)
  ]

  from-finished : (o : Option Checkpoint) → From (of_some m (finished m) o).history
  from-finished None at = inl at
  from-finished (Some c) at = inl at

  pub line-from : (event : Event) → From (after m event).history
  line-from OpenSession at = inl at
  line-from (BeginAt s read) at = inl at
  line-from (DrawId s) at = inl at
  line-from (AcceptWrite s number other change) at = inl at
  line-from (RefuseWrite s) at = inl at
  line-from (PrepareAt s stamp) at = from-there s (prepared m s stamp) (λ t there. appended-either From t.writes (Prepare (name_of m t) stamp) m.history (λ a. inl a) (λ w has a. inl a)) at
  line-from (CommitAt s commit durable) at = from-there s (λ t. decided t.phase m s commit durable t) (λ t there. from-decided s commit durable t t.phase there) at
  line-from (StartLeaving s) at = from-there s (λ t. left t.phase m s t) (λ t there. from-left s t t.phase) at
  line-from (EndTransaction s) at = inl at
  line-from (PlaceCursor s cursor position) at = inl at
  line-from (CreateTable new) at = inl at
  line-from (SetStamps oldest stable) at = inl at
  line-from RollbackToStable at = from-rollback at
  line-from CheckpointStart at = inl at
  line-from CheckpointFinish at = from-finished m.checkpoint at
  line-from CheckpointDrop at = inl at
  line-from (GoDown fault) at = inl at
  line-from Nothing at = inl at

-- a name that was not drawn yet is not below
not-below : (run next : ℕ) (x floor : Name) → (x.run ≡ run) × (next ≤ x.id) → (floor.run ≡ run) × (floor.id ≤ next) → is_below x floor ≡ false
not-below run next x floor new coming = false-from (is_below x floor) (λ e. elim (or_cases (nat_lt x.run floor.run) ((x.run == floor.run) && nat_lt x.id floor.id) e) [
  | inl earlier ↦ let low = ltb-true x.run floor.run earlier in let a = new.0 in let b = coming.0 in omega arith
  | inr now ↦ let low = ltb-true x.id floor.id (and_parts (x.run == floor.run) (nat_lt x.id floor.id) now).1 in let a = new.1 in let b = coming.1 in omega arith
])

pub pasts-go-on : PastsGoOn
pasts-go-on m event table key pin floor valid may past = record {
  cover = λ v at durable below. elim (line-from m table key v valid event at) [
    | inl old ↦ covers-after m event table key v valid may old (past.cover v old durable below)
    | inr live ↦ absurd (both_ways (is_below v.window.name floor) (past.living v.window.name live) below)
  ];
  living = λ x live. elim (follows.live x live) [
    | inl old ↦ past.living x old
    | inr new ↦ not-below m.run m.next x floor new past.coming
  ];
  coming = (past.coming.0 ∙ sym follows.run, (let low = past.coming.1 in let more : m.next ≤ (after m event).next = follows.drawn in omega arith));
} where
  follows : Follows m (after m event)
  follows = follows-after m event valid may
