-- The pin does not fall, and a version that covers goes on to cover, at every event that may come.
use Rattle.std.proofs.Common.{◌≡◌, ◌≢◌, ◌⊎◌, ◌≤◌, ◌+◌, ℕ, refl, ap, sym, ◌∙◌, Bool, true, ◌&&◌, List, [], ◌∷◌, ◌++◌, length, inl, inr, subst, arith, zero, suc, min}
use Rattle.std.specs.Prelude.{Option, Some, None, fold, nat_le, nat_lt, ◌==◌, slice_index_or, slice_set, option_map, option_and_then, if◌then◌else◌}
use Rattle.std.specs.List.{list_all, filter_map}
use Rattle.std.proofs.lemmas.Bool.{cases_Bool, and_parts, and_from, or_right, le-leb, leb-true, eqb-false}
use Rattle.item.specs.declared.Change.{Change}
use Rattle.stamp.specs.declared.Name.{Name}
use Rattle.stamp.specs.declared.Version.{Version}
use Rattle.kv_model.specs.Holds.{Member}
use Rattle.kv_model.specs.History.{Entry, Create, Commit, Prepare, Resolve, Undo, Rts, Write, line, released, releases, committed, ends}
use Rattle.kv_model.specs.Machine.{Machine, Transaction, Phase, Running, Failed, Prepared, Resolving, Leaving, Checkpoint, Event, transaction_of, after, of_some, begun, in_phase, written, prepared, decided, left, finished, appended, stamped, name_of, OpenSession, BeginAt, DrawId, AcceptWrite, RefuseWrite, PrepareAt, CommitAt, StartLeaving, EndTransaction, PlaceCursor, CreateTable, SetStamps, RollbackToStable, CheckpointStart, CheckpointFinish, CheckpointDrop, GoDown, Nothing}
use Rattle.kv_model.specs.Droppable.{covers, pin, read_stamps, seen_by}
use Rattle.kv_model.specs.Allowed.{Allowed}
use Rattle.kv_model.specs.Valid.{Valid}
use Rattle.kv_model.proofs.Covering.{pin-read, fold-min-start, all-at}
use Rattle.kv_model.proofs.Finishing.{line-committed}
use Rattle.kv_model.proofs.Snapshots.{line-released}
use Rattle.kv_model.proofs.Seats.{seat-inside, seat-cases}

-- ---- what the pin and a cover are made of

abbrev stamp_read : Option Transaction → Option ℕ
stamp_read o = option_and_then (λ (u : Transaction). if u.read == 0 then None else Some u.read) o

abbrev floor_of : Machine → ℕ
floor_of m = of_some m.oldest (λ (c : Checkpoint). min m.oldest c.oldest) m.checkpoint

-- a number below the start and below each active read stamp is below the pin
below-fold : (x b : ℕ) (sessions : List (Option Transaction)) → x ≤ b → ((s : ℕ) (t : Transaction) → slice_index_or sessions s None ≡ Some t → t.read ≢ 0 → x ≤ t.read) → x ≤ fold min b (filter_map stamp_read sessions)
below-fold x b [] low each = low
below-fold x b (None ∷ later) low each = below-fold x b later low (λ s t e. each (suc s) t e)
below-fold x b (Some u ∷ later) low each = elim (cases_Bool (u.read == 0)) [
  | inl z ↦ rw z (below-fold x b later low (λ s t e. each (suc s) t e))
  | inr n ↦ rw n (below-fold x (min b u.read) later (let here = each 0 u refl (eqb-false u.read 0 n) in omega arith) (λ s t e. each (suc s) t e))
]

all-from : {A : Type 0} (p : Option A → Bool) (xs : List (Option A)) → p None ≡ true → ((s : ℕ) (x : A) → slice_index_or xs s None ≡ Some x → p (Some x) ≡ true) → list_all p xs ≡ true
all-from p [] none each = refl
all-from p (None ∷ later) none each = and_from (p None) (list_all p later) none (all-from p later none (λ s x e. each (suc s) x e))
all-from p (Some x ∷ later) none each = and_from (p (Some x)) (list_all p later) (each 0 x refl) (all-from p later none (λ s y e. each (suc s) y e))

-- a stamp below all that the pin is the least of
pub record IsLow (m : Machine) (stamp : ℕ) : Type 0 where
  pub oldest : stamp ≤ m.oldest
  pub recorded : (c : Checkpoint) → m.checkpoint ≡ Some c → stamp ≤ c.oldest
  pub reads : (s : ℕ) (t : Transaction) → transaction_of m s ≡ Some t → t.read ≢ 0 → stamp ≤ t.read

pub low-pin : (m : Machine) (stamp : ℕ) → IsLow m stamp → stamp ≤ pin m
low-pin m stamp low = below-fold stamp (floor_of m) m.sessions (by-run m.checkpoint refl) low.reads where
  by-run : (o : Option Checkpoint) → m.checkpoint ≡ o → stamp ≤ of_some m.oldest (λ (c : Checkpoint). min m.oldest c.oldest) o
  by-run None is = low.oldest
  by-run (Some c) is = let a = low.oldest in let b = low.recorded c is in omega arith

pub pin-low : (m : Machine) (stamp : ℕ) → stamp ≤ pin m → IsLow m stamp
pin-low m stamp le = record {
  oldest = under m.checkpoint refl;
  recorded = λ c is. let a = subst (λ o. pin m ≤ of_some m.oldest (λ (c : Checkpoint). min m.oldest c.oldest) o) is (fold-min-start (floor_of m) (read_stamps m)) in omega arith;
  reads = λ s t there some. let a = pin-read (floor_of m) m.sessions s t there some in omega arith;
} where
  under : (o : Option Checkpoint) → m.checkpoint ≡ o → stamp ≤ m.oldest
  under None is = let a = subst (λ o. pin m ≤ of_some m.oldest (λ (c : Checkpoint). min m.oldest c.oldest) o) is (fold-min-start (floor_of m) (read_stamps m)) in omega arith
  under (Some c) is = let a = subst (λ o. pin m ≤ of_some m.oldest (λ (c : Checkpoint). min m.oldest c.oldest) o) is (fold-min-start (floor_of m) (read_stamps m)) in omega arith

-- what covers says
pub record Covering (m : Machine) (v : Version Change) : Type 0 where
  pub low : v.window.durable ≤ pin m
  pub seen : (s : ℕ) (t : Transaction) → transaction_of m s ≡ Some t → released m.history t.start v.window.name ≡ true
  pub captured : (c : Checkpoint) → m.checkpoint ≡ Some c → committed m.history c.prefix v.window.name ≡ true

abbrev in_checkpoint : Machine → Name → Bool
in_checkpoint m x = of_some true (λ (c : Checkpoint). committed m.history c.prefix x) m.checkpoint

pub covers-parts : (m : Machine) (v : Version Change) → covers m v ≡ true → Covering m v
covers-parts m v is =
    let one = and_parts (nat_le v.window.durable (pin m)) (list_all (seen_by m v.window.name) m.sessions && in_checkpoint m v.window.name) is in
    let two = and_parts (list_all (seen_by m v.window.name) m.sessions) (in_checkpoint m v.window.name) one.1 in record {
      low = leb-true v.window.durable (pin m) one.0;
      seen = λ s t there. all-at (seen_by m v.window.name) m.sessions s t two.0 there;
      captured = λ c runs. subst (λ o. of_some true (λ (c : Checkpoint). committed m.history c.prefix v.window.name) o ≡ true) runs two.1;
    }

pub parts-cover : (m : Machine) (v : Version Change) → Covering m v → covers m v ≡ true
parts-cover m v parts = and_from (nat_le v.window.durable (pin m)) (list_all (seen_by m v.window.name) m.sessions && in_checkpoint m v.window.name) (le-leb v.window.durable (pin m) parts.low)
    (and_from (list_all (seen_by m v.window.name) m.sessions) (in_checkpoint m v.window.name)
    (all-from (seen_by m v.window.name) m.sessions refl parts.seen)
    (by-run m.checkpoint refl)) where
      by-run : (o : Option Checkpoint) → m.checkpoint ≡ o → of_some true (λ (c : Checkpoint). committed m.history c.prefix v.window.name) o ≡ true
      by-run None is = refl
      by-run (Some c) is = parts.captured c is

-- ---- what an event leaves of them

-- a transaction as before, or one that began just now
abbrev pub IsOldOrNew : Machine → ℕ → Transaction → Type 0
IsOldOrNew m s u = ((t : Transaction) × (transaction_of m s ≡ Some t) × (u.read ≡ t.read) × (u.start ≡ t.start))
    ⊎ ((u.start ≡ length m.history) × ((u.read ≡ 0) ⊎ (m.oldest ≤ u.read)))

pub record Evolves (m next : Machine) : Type 0 where
  pub oldest : m.oldest ≤ next.oldest
  pub released : (n : ℕ) (x : Name) → released m.history n x ≡ true → released next.history n x ≡ true
  pub committed : (n : ℕ) (x : Name) → committed m.history n x ≡ true → committed next.history n x ≡ true
  pub seats : (s : ℕ) (u : Transaction) → transaction_of next s ≡ Some u → IsOldOrNew m s u
  pub checkpoint : (c : Checkpoint) → next.checkpoint ≡ Some c → (m.checkpoint ≡ Some c) ⊎ ((c.prefix ≡ length m.history) × (c.oldest ≡ m.oldest))

pub low-evolves : (m next : Machine) (stamp : ℕ) → Evolves m next → IsLow m stamp → IsLow next stamp
low-evolves m next stamp e low = record {
  oldest = let a = e.oldest in let b = low.oldest in omega arith;
  recorded = λ c runs. elim (e.checkpoint c runs) [ inl old ↦ low.recorded c old | inr new ↦ let a = new.1 in let b = low.oldest in omega arith ];
  reads = λ s u there some. elim (e.seats s u there) [
    | inl old ↦ let same = old.2 in let a = low.reads s old.0 old.1 (λ z. some (same ∙ z)) in omega arith
    | inr new ↦ elim new.1 [ inl none ↦ absurd (some none) | inr late ↦ let a = low.oldest in omega arith ]
  ];
}

pub pin-evolves : (m next : Machine) → Evolves m next → pin m ≤ pin next
pin-evolves m next e = low-pin next (pin m) (low-evolves m next (pin m) e (pin-low m (pin m) (omega arith)))

pub covers-evolves : (m next : Machine) (v : Version Change) → Evolves m next → released m.history (length m.history) v.window.name ≡ true → committed m.history (length m.history) v.window.name ≡ true
    → covers m v ≡ true → covers next v ≡ true
covers-evolves m next v e out in_it is = let parts = covers-parts m v is in parts-cover next v (record {
  low = let a = pin-evolves m next e in let b = parts.low in omega arith;
  seen = λ s u there. elim (e.seats s u there) [
    | inl old ↦ subst (λ n. released next.history n v.window.name ≡ true) (sym old.3) (e.released old.0.start v.window.name (parts.seen s old.0 old.1))
    | inr new ↦ subst (λ n. released next.history n v.window.name ≡ true) (sym new.0) (e.released (length m.history) v.window.name out)
  ];
  captured = λ c runs. elim (e.checkpoint c runs) [
    | inl old ↦ e.committed c.prefix v.window.name (parts.captured c old)
    | inr new ↦ subst (λ n. committed next.history n v.window.name ≡ true) (sym new.0) (e.committed (length m.history) v.window.name in_it)
  ];
})

-- ---- each event

released-more : (entry : Entry) (history : List Entry) (n : ℕ) (x : Name) → released history n x ≡ true → released (entry ∷ history) n x ≡ true
released-more entry history n x e = or_right (releases entry x && nat_lt (length history) n) (released history n x) e

committed-more : (entry : Entry) (history : List Entry) (n : ℕ) (x : Name) → committed history n x ≡ true → committed (entry ∷ history) n x ≡ true
committed-more entry history n x e = or_right (ends entry x && nat_lt (length history) n) (committed history n x) e

released-appended : (writes : List Write) (entry : Entry) (history : List Entry) (n : ℕ) (x : Name) → released history n x ≡ true → released (appended writes entry history) n x ≡ true
released-appended [] entry history n x e = e
released-appended (w ∷ writes) entry history n x e = released-more entry history n x e

committed-appended : (writes : List Write) (entry : Entry) (history : List Entry) (n : ℕ) (x : Name) → committed history n x ≡ true → committed (appended writes entry history) n x ≡ true
committed-appended [] entry history n x e = e
committed-appended (w ∷ writes) entry history n x e = committed-more entry history n x e

same-seat : (m : Machine) (s : ℕ) (u : Transaction) → transaction_of m s ≡ Some u → IsOldOrNew m s u
same-seat m s u there = inl (u, there, refl, refl)

-- the history and the sessions alone change
moves : (m next : Machine) → next.oldest ≡ m.oldest → next.checkpoint ≡ m.checkpoint
    → ((n : ℕ) (x : Name) → released m.history n x ≡ true → released next.history n x ≡ true) → ((n : ℕ) (x : Name) → committed m.history n x ≡ true → committed next.history n x ≡ true)
    → ((s : ℕ) (u : Transaction) → transaction_of next s ≡ Some u → IsOldOrNew m s u) → Evolves m next
moves m next o c r e s = record { oldest = (omega arith); released = r; committed = e; seats = s; checkpoint = λ k runs. inl (sym c ∙ runs) }

-- one seat's transaction changes its id, writes and phase alone
kin-seat : (m : Machine) (s : ℕ) (t u : Transaction) → transaction_of m s ≡ Some t → u.read ≡ t.read → u.start ≡ t.start → (r : ℕ) (x : Transaction) → slice_index_or (slice_set m.sessions s (Some u)) r None ≡ Some x → IsOldOrNew m r x
kin-seat m s t u there read start r x at = elim (seat-cases m.sessions s (Some u) r x (seat-inside m.sessions s t there) at) [
  | inl here ↦ let same : u ≡ x = (let e = here.1 in cc) in inl (t, subst (λ i. transaction_of m i ≡ Some t) (sym here.0) there, subst (λ (z : Transaction). z.read ≡ t.read) same read, subst (λ (z : Transaction). z.start ≡ t.start) same start)
  | inr other ↦ same-seat m r x other.1
]

gone-seat : (m : Machine) (s : ℕ) (t : Transaction) → transaction_of m s ≡ Some t → (r : ℕ) (x : Transaction) → slice_index_or (slice_set m.sessions s None) r None ≡ Some x → IsOldOrNew m r x
gone-seat m s t there r x at = elim (seat-cases m.sessions s None r x (seat-inside m.sessions s t there) at) [
  | inl here ↦ let none : None ≡ Some x = here.1 in absurd (cc)
  | inr other ↦ same-seat m r x other.1
]

stays : (m : Machine) → Evolves m m
stays m = moves m m refl refl (λ n x e. e) (λ n x e. e) (same-seat m)

-- a change of the transaction in hand that keeps its start and read stamp
changed : (m : Machine) (s next : ℕ) (change : Transaction → Transaction) → ((t : Transaction) → (change t).read ≡ t.read) → ((t : Transaction) → (change t).start ≡ t.start) → (t : Transaction) → transaction_of m s ≡ Some t
    → Evolves m (record m { sessions = slice_set m.sessions s (option_map change (transaction_of m s)); next = next })
changed m s next change read start t there = subst (λ o. Evolves m (record m { sessions = slice_set m.sessions s (option_map change o); next = next })) (sym there)
    (moves m (record m { sessions = slice_set m.sessions s (Some (change t)); next = next }) refl refl (λ n x e. e) (λ n x e. e) (kin-seat m s t (change t) there (read t) (start t)))

append-none : {A : Type 0} (xs : List (Option A)) (s : ℕ) → slice_index_or (xs ++ None ∷ []) s None ≡ slice_index_or xs s None
append-none [] zero = refl
append-none [] (suc s) = refl
append-none (x ∷ xs) zero = refl
append-none (x ∷ xs) (suc s) = append-none xs s

evolves-gone : (m : Machine) (s commit durable : ℕ) (t : Transaction) → transaction_of m s ≡ Some t → Evolves m (decided Running m s commit durable t)
evolves-gone m s commit durable t there = moves m (decided Running m s commit durable t) refl refl
    (released-appended t.writes (Commit (name_of m t) (stamped commit durable t.writes)) m.history) (committed-appended t.writes (Commit (name_of m t) (stamped commit durable t.writes)) m.history)
    (gone-seat m s t there)

evolves-decided : (m : Machine) (s commit durable : ℕ) (t : Transaction) (p : Phase) → transaction_of m s ≡ Some t → Evolves m (decided p m s commit durable t)
evolves-decided m s commit durable t (Prepared p) there = moves m (decided (Prepared p) m s commit durable t) refl refl
    (released-appended t.writes (Resolve (name_of m t) (stamped commit durable t.writes)) m.history) (committed-appended t.writes (Resolve (name_of m t) (stamped commit durable t.writes)) m.history)
    (kin-seat m s t (in_phase Resolving t) there refl refl)
evolves-decided m s commit durable t Running there = evolves-gone m s commit durable t there
evolves-decided m s commit durable t Failed there = evolves-gone m s commit durable t there
evolves-decided m s commit durable t Resolving there = evolves-gone m s commit durable t there
evolves-decided m s commit durable t Leaving there = evolves-gone m s commit durable t there

evolves-left : (m : Machine) (s : ℕ) (t : Transaction) (p : Phase) → transaction_of m s ≡ Some t → Evolves m (left p m s t)
evolves-left m s t (Prepared p) there = moves m (left (Prepared p) m s t) refl refl
    (released-appended t.writes (Undo (name_of m t)) m.history) (committed-appended t.writes (Undo (name_of m t)) m.history) (kin-seat m s t (in_phase Resolving t) there refl refl)
evolves-left m s t Running there = moves m (left Running m s t) refl refl (λ n x e. e) (λ n x e. e) (kin-seat m s t (in_phase Leaving t) there refl refl)
evolves-left m s t Failed there = moves m (left Failed m s t) refl refl (λ n x e. e) (λ n x e. e) (kin-seat m s t (in_phase Leaving t) there refl refl)
evolves-left m s t Resolving there = stays m
evolves-left m s t Leaving there = moves m (left Leaving m s t) refl refl (λ n x e. e) (λ n x e. e) (kin-seat m s t (in_phase Leaving t) there refl refl)

-- of the session's transaction, if there is one
if-there : (m : Machine) (s : ℕ) (f : Transaction → Machine) → ((t : Transaction) → transaction_of m s ≡ Some t → Evolves m (f t)) → Evolves m (of_some m f (transaction_of m s))
if-there m s f each = by-seat (transaction_of m s) refl where
  by-seat : (o : Option Transaction) → transaction_of m s ≡ o → Evolves m (of_some m f (transaction_of m s))
  by-seat None there = subst (λ o. Evolves m (of_some m f o)) (sym there) (stays m)
  by-seat (Some t) there = subst (λ o. Evolves m (of_some m f o)) (sym there) (each t there)

pub evolves-after : (m : Machine) (event : Event) → Allowed m event → Evolves m (after m event)
evolves-after m OpenSession may = moves m (after m OpenSession) refl refl (λ n x e. e) (λ n x e. e) (λ s u at. same-seat m s u (sym (append-none m.sessions s) ∙ at))
evolves-after m (BeginAt s read) may = moves m (after m (BeginAt s read)) refl refl (λ n x e. e) (λ n x e. e) (λ r u at. elim (seat-cases m.sessions s (Some (begun m read)) r u may.0 at) [
  | inl here ↦ let same : begun m read ≡ u = (let e = here.1 in cc) in inr (sym (ap (λ (z : Transaction). z.start) same), subst (λ (z : Transaction). (z.read ≡ 0) ⊎ (m.oldest ≤ z.read)) same may.2)
  | inr other ↦ same-seat m r u other.1
])
evolves-after m (DrawId s) may = changed m s (m.next + 1) (λ t. record t { id = m.next }) (λ t. refl) (λ t. refl) may.0 may.1
evolves-after m (AcceptWrite s table key change) may = changed m s m.next (written table key change) (λ t. refl) (λ t. refl) may.0 may.1
evolves-after m (RefuseWrite s) may = changed m s m.next (in_phase Failed) (λ t. refl) (λ t. refl) may.0 may.1
evolves-after m (PrepareAt s stamp) may = if-there m s (prepared m s stamp) (λ t there. moves m (prepared m s stamp t) refl refl
    (released-appended t.writes (Prepare (name_of m t) stamp) m.history) (committed-appended t.writes (Prepare (name_of m t) stamp) m.history) (kin-seat m s t (in_phase (Prepared stamp) t) there refl refl))
evolves-after m (CommitAt s commit durable) may = if-there m s (λ t. decided t.phase m s commit durable t) (λ t there. evolves-decided m s commit durable t t.phase there)
evolves-after m (StartLeaving s) may = if-there m s (λ t. left t.phase m s t) (λ t there. evolves-left m s t t.phase there)
evolves-after m (EndTransaction s) may = moves m (after m (EndTransaction s)) refl refl (λ n x e. e) (λ n x e. e) (gone-seat m s may.0 may.1)
evolves-after m (PlaceCursor s cursor position) may = moves m (after m (PlaceCursor s cursor position)) refl refl (λ n x e. e) (λ n x e. e) (same-seat m)
evolves-after m (CreateTable table) may = moves m (after m (CreateTable table)) refl refl (released-more (Create table) m.history) (committed-more (Create table) m.history) (same-seat m)
evolves-after m (SetStamps oldest stable) may = record { oldest = (omega arith); released = λ n x e. e; committed = λ n x e. e; seats = same-seat m; checkpoint = λ c runs. inl runs }
evolves-after m RollbackToStable may = elim (cases_Bool (m.stable == 0)) [
  | inl unset ↦ subst (λ b. Evolves m (record m { history = if b then m.history else Rts m.stable ∷ m.history; rollbacks = m.rollbacks + 1 })) (sym unset)
      (moves m (record m { rollbacks = m.rollbacks + 1 }) refl refl (λ n x e. e) (λ n x e. e) (same-seat m))
  | inr is ↦ subst (λ b. Evolves m (record m { history = if b then m.history else Rts m.stable ∷ m.history; rollbacks = m.rollbacks + 1 })) (sym is)
      (moves m (record m { history = Rts m.stable ∷ m.history; rollbacks = m.rollbacks + 1 }) refl refl (released-more (Rts m.stable) m.history) (committed-more (Rts m.stable) m.history) (same-seat m))
]
evolves-after m CheckpointStart may = record {
  oldest = (omega arith);
  released = λ n x e. e;
  committed = λ n x e. e;
  seats = same-seat m;
  checkpoint = λ c runs. let same : start ≡ c = cc in inr (sym (ap (λ (k : Checkpoint). k.prefix) same), sym (ap (λ (k : Checkpoint). k.oldest) same));
} where
  start : Checkpoint
  start = record { prefix = length m.history; oldest = m.oldest; stable = m.stable }
evolves-after m CheckpointFinish may = by-run m.checkpoint refl where
  by-run : (o : Option Checkpoint) → m.checkpoint ≡ o → Evolves m (of_some m (finished m) m.checkpoint)
  by-run None is = subst (λ o. Evolves m (of_some m (finished m) o)) (sym is) (stays m)
  by-run (Some c) is = subst (λ o. Evolves m (of_some m (finished m) o)) (sym is)
      (record { oldest = (omega arith); released = λ n x e. e; committed = λ n x e. e; seats = same-seat m; checkpoint = λ k runs. let none : None ≡ Some k = runs in absurd (cc) })
evolves-after m CheckpointDrop may = record { oldest = (omega arith); released = λ n x e. e; committed = λ n x e. e; seats = same-seat m; checkpoint = λ k runs. let none : None ≡ Some k = runs in absurd (cc) }
evolves-after m (GoDown fault) may = moves m (after m (GoDown fault)) refl refl (λ n x e. e) (λ n x e. e) (same-seat m)
evolves-after m Nothing may = stays m

pub pin-after : (m : Machine) (event : Event) → Allowed m event → pin m ≤ pin (after m event)
pin-after m event may = pin-evolves m (after m event) (evolves-after m event may)

pub covers-after : (m : Machine) (event : Event) (table : ℕ) (key : List ℕ) (v : Version Change) → Valid m → Allowed m event → Member v (line m.history table key) → covers m v ≡ true → covers (after m event) v ≡ true
covers-after m event table key v valid may there is = covers-evolves m (after m event) v (evolves-after m event may)
    (line-released m.history valid.orderly table key v there) (line-committed m.history table key v there) is
