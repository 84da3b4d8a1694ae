-- At each event a snapshot stays one of the entries that it was taken of.
use Rattle.std.proofs.Common.{◌≡◌, ◌⊎◌, ◌<◌, ◌≤◌, ◌+◌, ℕ, zero, suc, refl, ap, sym, ◌∙◌, Bool, true, false, List, [], ◌∷◌, ◌++◌, length, inl, inr, subst, arith}
use Rattle.std.specs.Prelude.{◌==◌, ◌&&◌, nat_lt, Option, Some, None, slice_index_or, slice_set, option_map, if◌then◌else◌}
use Rattle.std.proofs.lemmas.Bool.{both_ways, and_right, and_parts, or_cases, le-ltb}
use Rattle.stamp.specs.declared.Name.{Name}
use Rattle.kv_model.specs.Holds.{Member}
use Rattle.kv_model.specs.History.{Entry, Create, Commit, Prepare, Resolve, Undo, Rts, Write, released, releases, committed, ends, name_eq}
use Rattle.kv_model.specs.Machine.{Machine, Transaction, Phase, Running, Failed, Prepared, Resolving, Leaving, Event, OpenSession, BeginAt, DrawId, AcceptWrite, RefuseWrite, PrepareAt, CommitAt, StartLeaving, EndTransaction, PlaceCursor, CreateTable, SetStamps, RollbackToStable, CheckpointStart, CheckpointFinish, CheckpointDrop, GoDown, Nothing, after, of_some, finished, transaction_of, name_of, name_in, appended, stamped, in_phase, decided, left, begun, written}
use Rattle.kv_model.specs.Allowed.{Allowed}
use Rattle.kv_model.specs.Valid.{Valid}
use Rattle.kv_model.proofs.Releases.{released-later, released-cases, released-whole, released-same, committed-whole, committed-released, false-from, name_eq-same}
use Rattle.kv_model.proofs.Seats.{seat-inside, seat-cases}
use Rattle.kv_model.proofs.Beginning.{undrawn-unreleased}
use Rattle.snapshot.specs.Sight.{Sight}
use Rattle.snapshot.specs.Matters.{HasWrites, Counts, IsLive, Matters, SeesFirst, MattersToCheckpoints, SeesCommitted, SeesNoneLiving}
use Rattle.snapshot.proofs.Sighting.{unseen-late}

-- a name that was not drawn yet
abbrev pub IsUndrawn : Machine → Name → Type 0
IsUndrawn m x = (x.run ≡ m.run) × (m.next ≤ x.id)

-- a machine after an event, as far as a snapshot is concerned
pub record Follows (m next : Machine) : Type 0 where
  pub run : next.run ≡ m.run
  pub drawn : m.next ≤ next.next
  pub longer : length m.history ≤ length next.history
  -- the first entries are the same
  pub same : (n : ℕ) (x : Name) → n ≤ length m.history → released next.history n x ≡ released m.history n x
  -- who has not ended had not before, or is new
  pub live : (x : Name) → IsLive next x → IsLive m x ⊎ IsUndrawn m x
  -- a name that matters did so before, or is a new one
  pub matters : (x : Name) → Matters next x → Matters m x ⊎ IsUndrawn m x
  -- so for what is committed
  pub kept : (n : ℕ) (x : Name) → n ≤ length m.history → committed next.history n x ≡ committed m.history n x
  pub matters_to_checkpoints : (x : Name) → MattersToCheckpoints next x → MattersToCheckpoints m x ⊎ IsUndrawn m x

pub goes-on : (m next : Machine) (n : ℕ) (s : Sight) → Valid m → Follows m next → SeesFirst m n s → SeesFirst next n s
goes-on m next n s v f old = record {
  run = old.run ∙ sym f.run;
  order = old.order;
  drawn = (let a = old.drawn in let b = f.drawn in omega arith);
  within = (let a = old.within in let b = f.longer in omega arith);
  sees = λ x matters. elim (f.matters x matters) [
    | inl before ↦ old.sees x before ∙ sym (f.same n x old.within)
    | inr new ↦ unseen-late s x (new.0 ∙ sym old.run) old.order (let a = old.drawn in let b = new.1 in omega arith)
        ∙ sym (f.same n x old.within ∙ unreleased x new)
  ];
} where
  unreleased : (x : Name) → IsUndrawn m x → released m.history n x ≡ false
  unreleased x new = false-of (released m.history n x) (λ e. both_ways (released m.history (length m.history) x)
      (released-same x (record { run = m.run; id = x.id }) m.history (length m.history) new.0 refl ∙ undrawn-unreleased m v x.id (inr new.1))
      (released-whole m.history n x e)) where
        false-of : (b : Bool) → (b ≡ true → ⊥) → b ≡ false
        false-of true f = absurd (f refl)
        false-of false f = refl

pub committed-goes-on : (m next : Machine) (n : ℕ) (s : Sight) → Valid m → Follows m next → SeesCommitted m n s → SeesCommitted next n s
committed-goes-on m next n s v f old = record {
  run = old.run ∙ sym f.run;
  order = old.order;
  drawn = (let a = old.drawn in let b = f.drawn in omega arith);
  within = (let a = old.within in let b = f.longer in omega arith);
  sees = λ x matters. elim (f.matters_to_checkpoints x matters) [
    | inl before ↦ old.sees x before ∙ sym (f.kept n x old.within)
    | inr new ↦ unseen-late s x (new.0 ∙ sym old.run) old.order (let a = old.drawn in let b = new.1 in omega arith)
        ∙ sym (f.kept n x old.within ∙ uncommitted x new)
  ];
} where
  uncommitted : (x : Name) → IsUndrawn m x → committed m.history n x ≡ false
  uncommitted x new = false-from (committed m.history n x) (λ e. both_ways (released m.history (length m.history) x)
      (released-same x (record { run = m.run; id = x.id }) m.history (length m.history) new.0 refl ∙ undrawn-unreleased m v x.id (inr new.1))
      (committed-released m.history v.orderly n x e))

-- ---- seats

-- who sits somewhere after an event sat there before with the same id, or has none or a new one
pub record Kin (m : Machine) (r : ℕ) (u : Transaction) : Type 0 where
  pub kin : ((u.id ≡ 0) ⊎ (m.next ≤ u.id)) ⊎ ((t : Transaction) × (transaction_of m r ≡ Some t) × (t.id ≡ u.id) × (Counts u.phase u → Counts t.phase t))

abbrev pub AllKin : Machine → List (Option Transaction) → Type 0
AllKin m sessions = (r : ℕ) (u : Transaction) → slice_index_or sessions r None ≡ Some u → Kin m r u

itself : (m : Machine) (r : ℕ) (u : Transaction) → transaction_of m r ≡ Some u → Kin m r u
itself m r u there = record { kin = inr (u, there, refl, λ counts. counts) }

all-itself : (m : Machine) → AllKin m m.sessions
all-itself m r u there = itself m r u there

-- one session changed
set-kin : (m : Machine) (s : ℕ) (o : Option Transaction) → s < length m.sessions → ((u : Transaction) → o ≡ Some u → Kin m s u) → AllKin m (slice_set m.sessions s o)
set-kin m s o inside now r u there = elim (seat-cases m.sessions s o r u inside there) [
  | inl here ↦ subst (λ i. Kin m i u) (sym here.0) (now u here.1)
  | inr other ↦ itself m r u other.1
]

-- a transaction with the same id takes the seat
changed : (m : Machine) (s : ℕ) (t u : Transaction) → transaction_of m s ≡ Some t → u.id ≡ t.id → (Counts u.phase u → Counts t.phase t) → AllKin m (slice_set m.sessions s (Some u))
changed m s t u there id counts = set-kin m s (Some u) (seat-inside m.sessions s t there) (λ w is. let same : u ≡ w = cc in
    subst (λ z. Kin m s z) same (record { kin = inr (t, there, sym id, counts) }))

gone : (m : Machine) (s : ℕ) (t : Transaction) → transaction_of m s ≡ Some t → AllKin m (slice_set m.sessions s None)
gone m s t there = set-kin m s None (seat-inside m.sessions s t there) (λ w is. let none : None ≡ Some w = is in absurd (cc))

live-kin : (m next : Machine) (x : Name) → next.run ≡ m.run → AllKin m next.sessions → IsLive next x → IsLive m x ⊎ IsUndrawn m x
live-kin m next x run all l = elim (all l.session l.transaction l.there).kin [
  | inl new ↦ inr (
    ap (λ (n : Name). n.run) l.name ∙ run,
    (elim new [
      | inl none ↦ let d = l.drawn in absurd (omega arith)
      | inr late ↦ let same : x.id ≡ l.transaction.id = ap (λ (n : Name). n.id) l.name in omega arith
    ]),
  )
  | inr old ↦ inl (record {
    session = l.session;
    transaction = old.0;
    there = old.1;
    drawn = (let d = l.drawn in let same = old.2 in omega arith);
    name = l.name ∙ named next.run m.run l.transaction old.0 run (sym old.2);
    counts = old.3 l.counts;
  })
] where
  named : (run other : ℕ) (t u : Transaction) → run ≡ other → t.id ≡ u.id → name_in run t ≡ name_in other u
  named run other t u r i = λ k. record { run = r k; id = i k }

-- ---- histories

committed-later : (entry : Entry) (history : List Entry) (n : ℕ) (x : Name) → n ≤ length history → committed (entry ∷ history) n x ≡ committed history n x
committed-later entry history n x le = rw (and_right (ends entry x) (nat_lt (length history) n) (le-ltb (length history) n le)) refl

committed-cases : (entry : Entry) (history : List Entry) (n : ℕ) (x : Name) → committed (entry ∷ history) n x ≡ true → (ends entry x ≡ true) ⊎ (committed history n x ≡ true)
committed-cases entry history n x e = elim (or_cases (ends entry x && nat_lt (length history) n) (committed history n x) e) [
  | inl here ↦ inl (and_parts (ends entry x) (nat_lt (length history) n) here).0
  | inr later ↦ inr later
]

-- the entry releases or commits it
abbrev pub IsOf : Entry → Name → Type 0
IsOf entry x = (releases entry x ≡ true) ⊎ (ends entry x ≡ true)

either : {A : Type 0} → A ⊎ A → A
either (inl a) = a
either (inr a) = a

-- the history stays, or gets an entry that releases or commits a transaction that has not ended, if any
pub record Grows (m : Machine) (next : List Entry) : Type 0 where
  pub grows : (next ≡ m.history) ⊎ ((entry : Entry) × (next ≡ entry ∷ m.history) × ((x : Name) → IsOf entry x → IsLive m x))

follows : (m next : Machine) → next.run ≡ m.run → m.next ≤ next.next → Grows m next.history → AllKin m next.sessions → Follows m next
follows m next run drawn g all = elim g.grows [
  | inl same ↦ record {
    run = run;
    drawn = drawn;
    longer = (let e = ap length same in omega arith);
    same = λ n x le. ap (λ h. released h n x) same;
    live = λ x alive. live-kin m next x run all alive;
    matters = λ x matters. elim matters [
      | inl e ↦ inl (inl (ap (λ h. released h (length h) x) (sym same) ∙ e))
      | inr live ↦ elim (live-kin m next x run all live) [ inl before ↦ inl (inr before) | inr new ↦ inr new ]
    ];
    kept = λ n x le. ap (λ h. committed h n x) same;
    matters_to_checkpoints = λ x matters. elim matters [
      | inl e ↦ inl (inl (ap (λ h. committed h (length h) x) (sym same) ∙ e))
      | inr live ↦ elim (live-kin m next x run all live) [ inl before ↦ inl (inr before) | inr new ↦ inr new ]
    ];
  }
  | inr more ↦ record {
    run = run;
    drawn = drawn;
    longer = (let e : length next.history ≡ length (more.0 ∷ m.history) = ap length more.1 in omega arith);
    same = λ n x le. ap (λ h. released h n x) more.1 ∙ released-later more.0 m.history n x le;
    live = λ x alive. live-kin m next x run all alive;
    matters = λ x matters. elim matters [
      | inl e ↦ elim (released-cases more.0 m.history (length (more.0 ∷ m.history)) x (ap (λ h. released h (length h) x) (sym more.1) ∙ e)) [
        | inl here ↦ inl (inr (more.2 x (inl here.0)))
        | inr older ↦ inl (inl (released-whole m.history (length (more.0 ∷ m.history)) x older))
      ]
      | inr live ↦ elim (live-kin m next x run all live) [ inl before ↦ inl (inr before) | inr new ↦ inr new ]
    ];
    kept = λ n x le. ap (λ h. committed h n x) more.1 ∙ committed-later more.0 m.history n x le;
    matters_to_checkpoints = λ x matters. elim matters [
      | inl e ↦ elim (committed-cases more.0 m.history (length (more.0 ∷ m.history)) x (ap (λ h. committed h (length h) x) (sym more.1) ∙ e)) [
        | inl here ↦ inl (inr (more.2 x (inr here)))
        | inr older ↦ inl (inl (committed-whole m.history (length (more.0 ∷ m.history)) x older))
      ]
      | inr live ↦ elim (live-kin m next x run all live) [ inl before ↦ inl (inr before) | inr new ↦ inr new ]
    ];
  }
]

grows-none : (m : Machine) → Grows m m.history
grows-none m = record { grows = inl refl }

-- an entry that releases and commits nothing
grows-quiet : (m : Machine) (entry : Entry) → ((x : Name) → (releases entry x ≡ false) × (ends entry x ≡ false)) → Grows m (entry ∷ m.history)
grows-quiet m entry quiet = record { grows = inr (entry, refl, λ x of. elim of [ inl e ↦ absurd (both_ways (releases entry x) (quiet x).0 e) | inr e ↦ absurd (both_ways (ends entry x) (quiet x).1 e) ]) }

-- nothing joins the history for a transaction without writes
grows-by : (m : Machine) (s : ℕ) (t : Transaction) (entry : Entry) → Valid m → transaction_of m s ≡ Some t
    → ((w : HasWrites t) (x : Name) → IsOf entry x → IsLive m x) → Grows m (appended t.writes entry m.history)
grows-by m s t entry v there live = by-writes t.writes refl where
  by-writes : (writes : List Write) → t.writes ≡ writes → Grows m (appended writes entry m.history)
  by-writes [] is = grows-none m
  by-writes (w ∷ writes) is = record { grows = inr (entry, refl, live (w, subst (λ l. Member w l) (sym is) (inl refl))) }

-- the name of a transaction with writes that counts
live-named : (m : Machine) (s : ℕ) (t : Transaction) (x : Name) → Valid m → transaction_of m s ≡ Some t → HasWrites t → Counts t.phase t → name_eq (name_of m t) x ≡ true → IsLive m x
live-named m s t x v there writes counts same = let parts = name_eq-same (name_of m t) x same in record {
  session = s;
  transaction = t;
  there = there;
  drawn = drawn t.id refl;
  name = λ k. record { run = sym parts.0 k; id = sym parts.1 k };
  counts = counts;
} where
  drawn : (id : ℕ) → t.id ≡ id → 0 < id
  drawn zero is = absurd (subst (λ l. Member writes.0 l) ((v.sessions.each s t there).undrawn is) writes.1)
  drawn (suc id) is = omega arith

counts-writes : (p : Phase) (t : Transaction) → HasWrites t → Counts p t
counts-writes Running t w = tt
counts-writes Failed t w = tt
counts-writes Leaving t w = tt
counts-writes (Prepared stamp) t w = w
counts-writes Resolving t w = w

-- ---- events

follows-prepare : (m : Machine) (s stamp : ℕ) (t : Transaction) → Valid m → transaction_of m s ≡ Some t → t.phase ≡ Running → Follows m (after m (PrepareAt s stamp))
follows-prepare m s stamp t v there running = subst (λ o. Follows m (of_some m (λ u. record m { sessions = slice_set m.sessions s (Some (in_phase (Prepared stamp) u)); history = appended u.writes (Prepare (name_of m u) stamp) m.history }) o)) (sym there)
    (follows m (record m { sessions = slice_set m.sessions s (Some (in_phase (Prepared stamp) t)); history = appended t.writes (Prepare (name_of m t) stamp) m.history }) refl (omega arith)
    (grows-by m s t (Prepare (name_of m t) stamp) v there (λ w x of. elim of [ inl e ↦ live-named m s t x v there w (counts-writes t.phase t w) e | inr e ↦ absurd (cc) ]))
    (changed m s t (in_phase (Prepared stamp) t) there refl (λ w. counts-writes t.phase t w)))

follows-decided : (m : Machine) (s commit durable : ℕ) (t : Transaction) (p : Phase) → Valid m → transaction_of m s ≡ Some t → t.phase ≡ p → Follows m (decided p m s commit durable t)
follows-decided m s commit durable t (Prepared stamp) v there is = follows m (decided (Prepared stamp) m s commit durable t) refl (omega arith)
    (grows-by m s t (Resolve (name_of m t) (stamped commit durable t.writes)) v there (λ w x of. elim of [ inl e ↦ absurd (cc) | inr e ↦ live-named m s t x v there w (counts-writes t.phase t w) e ]))
    (changed m s t (in_phase Resolving t) there refl (λ w. counts-writes t.phase t w))
follows-decided m s commit durable t Running v there is = follows m (decided Running m s commit durable t) refl (omega arith)
    (grows-by m s t (Commit (name_of m t) (stamped commit durable t.writes)) v there (λ w x e. live-named m s t x v there w (counts-writes t.phase t w) (either e))) (gone m s t there)
follows-decided m s commit durable t Failed v there is = follows m (decided Failed m s commit durable t) refl (omega arith)
    (grows-by m s t (Commit (name_of m t) (stamped commit durable t.writes)) v there (λ w x e. live-named m s t x v there w (counts-writes t.phase t w) (either e))) (gone m s t there)
follows-decided m s commit durable t Resolving v there is = follows m (decided Resolving m s commit durable t) refl (omega arith)
    (grows-by m s t (Commit (name_of m t) (stamped commit durable t.writes)) v there (λ w x e. live-named m s t x v there w (counts-writes t.phase t w) (either e))) (gone m s t there)
follows-decided m s commit durable t Leaving v there is = follows m (decided Leaving m s commit durable t) refl (omega arith)
    (grows-by m s t (Commit (name_of m t) (stamped commit durable t.writes)) v there (λ w x e. live-named m s t x v there w (counts-writes t.phase t w) (either e))) (gone m s t there)

pub follows-itself : (m : Machine) → Follows m m
follows-itself m = follows m m refl (omega arith) (grows-none m) (all-itself m)

-- it starts to leave, and may be released no more
leaving : (m : Machine) (s : ℕ) (t : Transaction) → transaction_of m s ≡ Some t → Counts t.phase t → Follows m (record m { sessions = slice_set m.sessions s (Some (in_phase Leaving t)) })
leaving m s t there counts = follows m (record m { sessions = slice_set m.sessions s (Some (in_phase Leaving t)) }) refl (omega arith) (grows-none m)
    (changed m s t (in_phase Leaving t) there refl (λ u. counts))

follows-left : (m : Machine) (s : ℕ) (t : Transaction) (p : Phase) → Valid m → transaction_of m s ≡ Some t → t.phase ≡ p → Follows m (left p m s t)
follows-left m s t (Prepared stamp) v there is = follows m (left (Prepared stamp) m s t) refl (omega arith)
    (grows-by m s t (Undo (name_of m t)) v there (λ w x of. elim of [ inl e ↦ absurd (cc) | inr e ↦ absurd (cc) ]))
    (changed m s t (in_phase Resolving t) there refl (λ w. counts-writes t.phase t w))
follows-left m s t Resolving v there is = follows-itself m
follows-left m s t Running v there is = leaving m s t there (subst (λ q. Counts q t) (sym is) tt)
follows-left m s t Failed v there is = leaving m s t there (subst (λ q. Counts q t) (sym is) tt)
follows-left m s t Leaving v there is = leaving m s t there (subst (λ q. Counts q t) (sym is) tt)

follows-leave : (m : Machine) (s : ℕ) → Valid m → Follows m (after m (StartLeaving s))
follows-leave m s v = by-seat (transaction_of m s) refl where
  by-seat : (o : Option Transaction) → transaction_of m s ≡ o → Follows m (of_some m (λ t. left t.phase m s t) o)
  by-seat None is = follows-itself m
  by-seat (Some t) is = follows-left m s t t.phase v is refl

-- the same history, with the sessions changed at one seat where a transaction sits
follows-change : (m : Machine) (s : ℕ) (t : Transaction) (change : Transaction → Transaction) → transaction_of m s ≡ Some t → (change t).id ≡ t.id → (Counts (change t).phase (change t) → Counts t.phase t)
    → Follows m (record m { sessions = slice_set m.sessions s (option_map change (transaction_of m s)) })
follows-change m s t change there id counts = subst (λ o. Follows m (record m { sessions = slice_set m.sessions s (option_map change o) })) (sym there)
    (follows m (record m { sessions = slice_set m.sessions s (Some (change t)) }) refl (omega arith) (grows-none m) (changed m s t (change t) there id counts))

follows-draw : (m : Machine) (s : ℕ) (t : Transaction) → transaction_of m s ≡ Some t → Follows m (after m (DrawId s))
follows-draw m s t there = subst (λ o. Follows m (record m { sessions = slice_set m.sessions s (option_map (λ (u : Transaction). record u { id = m.next }) o); next = m.next + 1 })) (sym there)
    (follows m (record m { sessions = slice_set m.sessions s (Some (record t { id = m.next })); next = m.next + 1 }) refl (omega arith) (grows-none m)
    (set-kin m s (Some (record t { id = m.next })) (seat-inside m.sessions s t there) (λ u is. let same : record t { id = m.next } ≡ u = cc in
    subst (λ z. Kin m s z) same (record { kin = inl (inr (omega arith)) }))))

follows-open : (m : Machine) → Follows m (after m OpenSession)
follows-open m = follows m (after m OpenSession) refl (omega arith) (grows-none m) (λ r u there. itself m r u (sym (append-none m.sessions r) ∙ there)) where
  append-none : {A : Type 0} (xs : List (Option A)) (s : ℕ) → slice_index_or (xs ++ None ∷ []) s None ≡ slice_index_or xs s None
  append-none [] zero = refl
  append-none [] (suc s) = refl
  append-none (x ∷ xs) zero = refl
  append-none (x ∷ xs) (suc s) = append-none xs s

follows-begin : (m : Machine) (s read : ℕ) → s < length m.sessions → Follows m (after m (BeginAt s read))
follows-begin m s read inside = follows m (after m (BeginAt s read)) refl (omega arith) (grows-none m)
    (set-kin m s (Some (begun m read)) inside (λ u is. let same : begun m read ≡ u = cc in subst (λ z. Kin m s z) same (record { kin = inl (inl refl) })))

follows-rollback : (m : Machine) → Follows m (after m RollbackToStable)
follows-rollback m = follows m (after m RollbackToStable) refl (omega arith) (by-stable (m.stable == 0)) (all-itself m) where
  by-stable : (b : Bool) → Grows m (if b then m.history else Rts m.stable ∷ m.history)
  by-stable true = grows-none m
  by-stable false = grows-quiet m (Rts m.stable) (λ x. (refl, refl))

follows-finish : (m : Machine) → Follows m (after m CheckpointFinish)
follows-finish m = by-run m.checkpoint where
  by-run : (o : Option _) → Follows m (of_some m (finished m) o)
  by-run None = follows-itself m
  by-run (Some k) = follows m (finished m k) refl (omega arith) (grows-none m) (all-itself m)

pub follows-after : (m : Machine) (event : Event) → Valid m → Allowed m event → Follows m (after m event)
follows-after m OpenSession v may = follows-open m
follows-after m (BeginAt s read) v may = follows-begin m s read may.0
follows-after m (DrawId s) v may = follows-draw m s may.0 may.1
follows-after m (AcceptWrite s table key change) v may = follows-change m s may.0 (written table key change) may.1 refl (λ counts. subst (λ p. Counts p may.0) (sym may.2.0) tt)
follows-after m (RefuseWrite s) v may = follows-change m s may.0 (in_phase Failed) may.1 refl (λ counts. subst (λ p. Counts p may.0) (sym may.2) tt)
follows-after m (PrepareAt s stamp) v may = follows-prepare m s stamp may.0.0 v may.0.1 may.0.2
follows-after m (CommitAt s commit durable) v may = subst (λ o. Follows m (of_some m (λ t. decided t.phase m s commit durable t) o)) (sym may.1) (follows-decided m s commit durable may.0 may.0.phase v may.1 refl)
follows-after m (StartLeaving s) v may = follows-leave m s v
follows-after m (EndTransaction s) v may = follows m (after m (EndTransaction s)) refl (omega arith) (grows-none m) (gone m s may.0 may.1)
follows-after m (PlaceCursor s cursor position) v may = follows m (after m (PlaceCursor s cursor position)) refl (omega arith) (grows-none m) (all-itself m)
follows-after m (CreateTable table) v may = follows m (after m (CreateTable table)) refl (omega arith) (grows-quiet m (Create table) (λ x. (refl, refl))) (all-itself m)
follows-after m (SetStamps oldest stable) v may = follows m (after m (SetStamps oldest stable)) refl (omega arith) (grows-none m) (all-itself m)
follows-after m RollbackToStable v may = follows-rollback m
follows-after m CheckpointStart v may = follows m (after m CheckpointStart) refl (omega arith) (grows-none m) (all-itself m)
follows-after m CheckpointFinish v may = follows-finish m
follows-after m CheckpointDrop v may = follows m (after m CheckpointDrop) refl (omega arith) (grows-none m) (all-itself m)
follows-after m (GoDown fault) v may = follows m (after m (GoDown fault)) refl (omega arith) (grows-none m) (all-itself m)
follows-after m Nothing v may = follows-itself m

-- who lives later lived before, or was not drawn
pub living-unseen : (m next : Machine) (s : Sight) → Follows m next → SeesNoneLiving m s → SeesNoneLiving next s
living-unseen m next s follows old = record {
  run = old.run ∙ sym follows.run;
  order = old.order;
  drawn = (let low = old.drawn in let more = follows.drawn in omega arith);
  unseen = λ x live. elim (follows.live x live) [
    | inl before ↦ old.unseen x before
    | inr new ↦ unseen-late s x (new.0 ∙ sym old.run) old.order (let low = old.drawn in let late = new.1 in omega arith)
  ];
}
