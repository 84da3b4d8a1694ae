-- What a snapshot that is taken for a checkpoint sees.
use Rattle.std.proofs.Common.{◌≡◌, ◌<◌, ℕ, refl, ap, sym, ◌∙◌, true, false, List, length, inl, inr, arith}
use Rattle.std.proofs.lemmas.Bool.{both_ways}
use Rattle.stamp.specs.declared.Name.{Name}
use Rattle.kv_model.specs.History.{committed}
use Rattle.kv_model.specs.Machine.{Machine, Transaction, Phase, Running, Failed, Prepared, Resolving, Leaving, name_in}
use Rattle.kv_model.specs.Valid.{Valid, PhaseStands}
use Rattle.kv_model.proofs.Releases.{committed-released, false-from}
use Rattle.kv_model.proofs.Releasing.{never-committed}
use Rattle.snapshot.specs.Sight.{Ascends, is_listed, is_seen, least_or, sight_at}
use Rattle.snapshot.specs.Matters.{IsLive, IsUnended, AreUnended, NoneResolves, SeesCommitted}
use Rattle.snapshot.proofs.Listed.{listed-within, ascends-least, ascends-bound}
use Rattle.snapshot.proofs.Sighting.{seen-earlier, seen-unlisted, unseen-listed}

-- a transaction that is not resolving was not committed
uncommitted-by : (m : Machine) (t : Transaction) (p : Phase) → Valid m → PhaseStands p m.history (name_in m.run t) t → (p ≡ Resolving → ⊥) → committed m.history (length m.history) (name_in m.run t) ≡ false
uncommitted-by m t Running v stands not = never-committed m t v stands
uncommitted-by m t Failed v stands not = never-committed m t v stands
uncommitted-by m t Leaving v stands not = never-committed m t v stands
uncommitted-by m t (Prepared stamp) v stands not = stands.uncommitted
uncommitted-by m t Resolving v stands not = absurd (not refl)

named : (x : Name) (run : ℕ) (t : Transaction) → x.run ≡ run → t.id ≡ x.id → x ≡ name_in run t
named x run t r i = λ k. record { run = r k; id = sym i k }

unended-uncommitted : (m : Machine) (x : Name) → Valid m → NoneResolves m → x.run ≡ m.run → IsUnended m x.id → committed m.history (length m.history) x ≡ false
unended-uncommitted m x v none run u = ap (committed m.history (length m.history)) (named x m.run u.transaction run u.same)
    ∙ uncommitted-by m u.transaction u.transaction.phase v (v.sessions.each u.session u.transaction u.there).phase (none u.session u.transaction u.there)

-- a live name is of an id that has not ended
live-unended : (m : Machine) (x : Name) → IsLive m x → (x.run ≡ m.run) × IsUnended m x.id
live-unended m x l =
    let id : x.id ≡ l.transaction.id = ap (λ (n : Name). n.id) l.name in
    let drawn : 0 < x.id = let d = l.drawn in omega arith in
    (ap (λ (n : Name). n.run) l.name, record { session = l.session; transaction = l.transaction; there = l.there; drawn = drawn; same = sym id })

-- nothing of a transaction that has not ended is seen
pub live-unseen : (m : Machine) (ids : List ℕ) (x : Name) → Ascends 1 ids m.next → AreUnended m ids → IsLive m x → is_seen (sight_at m.run m.next ids) x ≡ false
live-unseen m ids x a are l =
    let u = live-unended m x l in
    let listed = are.all x.id u.1 in
    let within = listed-within (least_or m.next ids) m.next ids x.id (ascends-least 1 m.next ids a) listed in
    unseen-listed (sight_at m.run m.next ids) x u.0 within.0 listed

-- of what was committed all else is
pub ended-seen : (m : Machine) (ids : List ℕ) (x : Name) → Valid m → AreUnended m ids → committed m.history (length m.history) x ≡ true → (x.run ≡ m.run → IsUnended m x.id → ⊥) → is_seen (sight_at m.run m.next ids) x ≡ true
ended-seen m ids x v are e ended = elim (v.names x (committed-released m.history v.orderly (length m.history) x e)) [
  | inl earlier ↦ seen-earlier (sight_at m.run m.next ids) x earlier
  | inr drawn ↦ seen-unlisted (sight_at m.run m.next ids) x drawn.0 drawn.2 (false-from (is_listed ids x.id) (λ listed. ended drawn.0 (are.each x.id listed)))
]

pub sees-committed-first : (m : Machine) (ids : List ℕ) → Valid m → NoneResolves m → Ascends 1 ids m.next → AreUnended m ids → SeesCommitted m (length m.history) (sight_at m.run m.next ids)
sees-committed-first m ids v none a are = record {
  run = refl;
  order = ascends-bound (least_or m.next ids) m.next ids (ascends-least 1 m.next ids a);
  drawn = omega arith;
  within = omega arith;
  sees = λ x matters. elim matters [
    | inl e ↦ ended-seen m ids x v are e (λ run u. both_ways (committed m.history (length m.history) x) (unended-uncommitted m x v none run u) e) ∙ sym e
    | inr live ↦ let u = live-unended m x live in live-unseen m ids x a are live ∙ sym (unended-uncommitted m x v none u.0 u.1)
  ];
}
