-- The snapshot of a checkpoint lists the transactions that have not ended.
use Rattle.std.proofs.Common.{◌≡◌, ◌⊎◌, ◌<◌, ◌≤◌, ℕ, zero, suc, refl, ap, sym, ◌∙◌, true, false, List, [], ◌∷◌, length, inl, inr, subst, arith}
use Rattle.std.specs.Prelude.{◌==◌, fold, Option, Some, None, if◌then◌else◌, slice_index_or}
use Rattle.std.specs.List.{filter_map}
use Rattle.std.proofs.lemmas.Bool.{cases_Bool, both_ways, eqb-true, ne_eqb, eq-eqb, or_left, or_right, or_cases}
use Rattle.kv_model.specs.Machine.{Machine, Transaction, Checkpoint, CheckpointStart, after, transaction_of}
use Rattle.kv_model.specs.Allowed.{Allowed}
use Rattle.kv_model.specs.Valid.{Valid}
use Rattle.kv_model.proofs.Finishing.{line-committed}
use Rattle.snapshot.specs.Sight.{Ascends, is_listed, is_seen, least_or, sight_at, with_id}
use Rattle.snapshot.specs.Matters.{IsUnended, AreUnended, SeesCommitted}
use Rattle.snapshot.proofs.Listed.{ascends-bound, ascends-least, ascends-with, with-finds, with-new, with-old}
use Rattle.snapshot.proofs.Checkpoints.{sees-committed-first, live-unseen, ended-seen}
use Rattle.snapshot.proofs.GoingOn.{committed-goes-on, follows-after}
use Rattle.txn_table.specs.SessionData.{SessionData, opened, is_idle, unended_id}
use Rattle.txn_table.specs.Tabled.{Table, session_of, phase_of, unended}
use Rattle.txn_table.specs.Stands.{SessionStands, TableStands}
use Rattle.txn_table.specs.Checkpoints.{CheckpointsSee, EndedAreSeen}
use Rattle.txn_table.proofs.TableLemmas.{next-above}
use Rattle.txn_table.proofs.Bounds.{busy-has, busy-some}
use Rattle.txn_table.proofs.Standing.{state-at}

-- ---- a list with some ids more

some-found : (more ids : List ℕ) (x : ℕ) → is_listed (fold with_id ids more) x ≡ true → (is_listed ids x ≡ true) ⊎ (is_listed more x ≡ true)
some-found [] ids x e = inl e
some-found (id ∷ more) ids x e = elim (some-found more (with_id ids id) x e) [
  | inl early ↦ elim (with-finds ids id x early) [ inl old ↦ inl old | inr same ↦ inr (or_left (id == x) (is_listed more x) (eq-eqb id x same)) ]
  | inr later ↦ inr (or_right (id == x) (is_listed more x) later)
]

some-kept : (more ids : List ℕ) (x : ℕ) → is_listed ids x ≡ true → is_listed (fold with_id ids more) x ≡ true
some-kept [] ids x e = e
some-kept (id ∷ more) ids x e = some-kept more (with_id ids id) x (with-old ids id x e)

some-listed : (more ids : List ℕ) (x : ℕ) → is_listed more x ≡ true → is_listed (fold with_id ids more) x ≡ true
some-listed [] ids x e = absurd (cc)
some-listed (id ∷ more) ids x e = elim (or_cases (id == x) (is_listed more x) e) [
  | inl here ↦ some-kept more (with_id ids id) x (subst (λ i. is_listed (with_id ids id) i ≡ true) (eqb-true id x here) (with-new ids id))
  | inr later ↦ some-listed more (with_id ids id) x later
]

some-ascend : (more ids : List ℕ) (high : ℕ) → Ascends 1 ids high → ((x : ℕ) → is_listed more x ≡ true → (1 ≤ x) × (x < high)) → Ascends 1 (fold with_id ids more) high
some-ascend [] ids high a within = a
some-ascend (id ∷ more) ids high a within =
    let here = within id (or_left (id == id) (is_listed more id) (eq-eqb id id refl)) in
    some-ascend more (with_id ids id) high (ascends-with 1 high ids id a here.0 here.1) (λ x later. within x (or_right (id == x) (is_listed more x) later))

-- ---- ids of sessions

not-zero : (a b : ℕ) → a ≡ b → (a == 0) ≡ false → 0 < b
not-zero zero b same some = absurd (both_ways (0 == 0) some refl)
not-zero (suc a) b same some = omega arith

state-some : (x : SessionData) (id : ℕ) → unended_id x ≡ Some id → (is_idle x.phase ≡ false) × (x.id ≡ id) × (0 < id)
state-some x id is = elim (cases_Bool (is_idle x.phase)) [
  | inl idle ↦ let both : None ≡ Some id = sym (ap (λ b. if b then None else (if x.id == 0 then None else Some x.id)) idle) ∙ is in absurd (cc)
  | inr busy ↦ drawn busy (ap (λ b. if b then None else (if x.id == 0 then None else Some x.id)) (sym busy) ∙ is)
] where
  drawn : is_idle x.phase ≡ false → (if x.id == 0 then None else Some x.id) ≡ Some id → (is_idle x.phase ≡ false) × (x.id ≡ id) × (0 < id)
  drawn busy e = elim (cases_Bool (x.id == 0)) [
    | inl none ↦ let both : None ≡ Some id = sym (ap (λ b. if b then None else Some x.id) none) ∙ e in absurd (cc)
    | inr some ↦ let both : Some x.id ≡ Some id = ap (λ b. if b then None else Some x.id) (sym some) ∙ e in let same : x.id ≡ id = cc in (busy, same, not-zero x.id id same some)
  ]

some-state : (x : SessionData) → is_idle x.phase ≡ false → 0 < x.id → unended_id x ≡ Some x.id
some-state x busy drawn = ap (λ b. if b then None else (if x.id == 0 then None else Some x.id)) busy ∙ ap (λ b. if b then None else Some x.id) (ne_eqb x.id 0 (λ e. omega arith))

-- ids and sessions
states-found : (d : SessionData) (states : List SessionData) (id : ℕ) → is_listed (filter_map unended_id states) id ≡ true → (s : ℕ) × (unended_id (slice_index_or states s d) ≡ Some id)
states-found d [] id e = absurd (cc)
states-found d (x ∷ states) id e = by-head (unended_id x) refl (λ e. let at = states-found d states id e in (suc at.0, at.1)) where
  by-head : (o : Option ℕ) → unended_id x ≡ o → (is_listed (filter_map unended_id states) id ≡ true → (s : ℕ) × (unended_id (slice_index_or (x ∷ states) s d) ≡ Some id)) → (s : ℕ) × (unended_id (slice_index_or (x ∷ states) s d) ≡ Some id)
  by-head None is later = later (rw is at e)
  by-head (Some one) is later = elim (or_cases (one == id) (is_listed (filter_map unended_id states) id) (rw is at e)) [
    | inl here ↦ (0, is ∙ ap Some (eqb-true one id here))
    | inr rest ↦ later rest
  ]

states-listed : (d : SessionData) (states : List SessionData) (s id : ℕ) → unended_id d ≡ None → unended_id (slice_index_or states s d) ≡ Some id → is_listed (filter_map unended_id states) id ≡ true
states-listed d [] s id none e = let both : None ≡ Some id = sym none ∙ e in absurd (cc)
states-listed d (x ∷ states) zero id none e = rw e (or_left (id == id) (is_listed (filter_map unended_id states) id) (eq-eqb id id refl))
states-listed d (x ∷ states) (suc s) id none e = by-head (unended_id x) refl (states-listed d states s id none e) where
  by-head : (o : Option ℕ) → unended_id x ≡ o → is_listed (filter_map unended_id states) id ≡ true → is_listed (filter_map unended_id (x ∷ states)) id ≡ true
  by-head None is later = rw is later
  by-head (Some one) is later = rw is (or_right (one == id) (is_listed (filter_map unended_id states) id) later)

-- ---- the transactions

unended-ascend : (t : Table) (m : Machine) → TableStands t m → Ascends 1 (unended t) t.next
unended-ascend t m stands = some-ascend (filter_map unended_id t.sessions) [] t.next (next-above t stands.table) (λ x listed.
    let at = states-found (opened t.run) t.sessions x listed in
    let state = state-some (session_of t at.0) x at.1 in
    let drawn = stands.table.drawn at.0 in let same = state.1 in let some = state.2 in (omega arith, omega arith))

pub are-unended : (t : Table) (m : Machine) → TableStands t m → AreUnended m (unended t)
are-unended t m stands = record {
  each = λ id listed. elim (some-found (filter_map unended_id t.sessions) [] id listed) [
    | inl none ↦ absurd (cc)
    | inr more ↦ let at = states-found (opened t.run) t.sessions id more in let state = state-some (session_of t at.0) id at.1 in
        unended-at at.0 id state.0 state.1 state.2
  ];
  all = λ id u. let state = state-at t m u.session u.transaction stands u.there in let drawn = u.drawn in let same : (session_of t u.session).id ≡ id = state.id ∙ u.same in
      some-listed (filter_map unended_id t.sessions) [] id (states-listed (opened t.run) t.sessions u.session id refl
      (some-state (session_of t u.session) (busy-some (phase_of t u.session) u.transaction.phase state.phase) (omega arith) ∙ ap Some same));
} where
  unended-at : (s id : ℕ) → is_idle (phase_of t s) ≡ false → (session_of t s).id ≡ id → 0 < id → IsUnended m id
  unended-at s id busy same drawn = by-state (transaction_of m s) refl where
    by-state : (o : Option Transaction) → transaction_of m s ≡ o → IsUnended m id
    by-state None is = absurd (busy-has (phase_of t s) busy (subst (λ z. SessionStands m (session_of t s) z) is (stands.sessions s)))
    by-state (Some x) is = record { session = s; transaction = x; there = is; drawn = drawn; same = sym (state-at t m s x stands is).id ∙ same }

-- ---- the start of a checkpoint

same-sight : (t : Table) (m : Machine) → TableStands t m → sight_at m.run m.next (unended t) ≡ sight_at t.run t.next (unended t)
same-sight t m stands = ap (λ r. sight_at r m.next (unended t)) (sym stands.run) ∙ ap (λ n. sight_at t.run n (unended t)) (sym stands.next)

unended-below : (t : Table) (m : Machine) → TableStands t m → Ascends 1 (unended t) m.next
unended-below t m stands = subst (Ascends 1 (unended t)) stands.next (unended-ascend t m stands)

start-sees : (t : Table) (m : Machine) → Valid m → TableStands t m → Allowed m CheckpointStart → SeesCommitted (after m CheckpointStart) (length m.history) (sight_at t.run t.next (unended t))
start-sees t m v stands may = subst (SeesCommitted (after m CheckpointStart) (length m.history)) (same-sight t m stands)
    (committed-goes-on m (after m CheckpointStart) (length m.history) (sight_at m.run m.next (unended t)) v (follows-after m CheckpointStart v may)
    (sees-committed-first m (unended t) v may.1 (unended-below t m stands) (are-unended t m stands)))

pub checkpoints-see : CheckpointsSee
checkpoints-see t m c v stands may runs =
    let whole : c.prefix ≡ length m.history = prefix-is runs in
    let sees = subst (λ n. SeesCommitted (after m CheckpointStart) n (sight_at t.run t.next (unended t))) (sym whole) (start-sees t m v stands may) in record {
      sees = sees;
      versions = λ table key version there. sees.sees version.window.name (inl (line-committed m.history table key version there));
    } where
      prefix-is : (after m CheckpointStart).checkpoint ≡ Some c → c.prefix ≡ length m.history
      prefix-is is = let same : record { prefix = length m.history; oldest = m.oldest; stable = m.stable } ≡ c = cc in ap (λ (k : Checkpoint). k.prefix) (sym same)

-- at any moment
pub ended-are-seen : EndedAreSeen
ended-are-seen t m v stands = record {
  living = record {
    run = stands.run;
    order = ascends-bound (least_or t.next (unended t)) t.next (unended t) (ascends-least 1 t.next (unended t) (unended-ascend t m stands));
    drawn = (let next = stands.next in omega arith);
    unseen = λ x l. ap (λ s. is_seen s x) (sym (same-sight t m stands)) ∙ live-unseen m (unended t) x (unended-below t m stands) (are-unended t m stands) l;
  };
  ended = λ x e none. ap (λ s. is_seen s x) (sym (same-sight t m stands)) ∙ ended-seen m (unended t) x v (are-unended t m stands) e none;
}
