-- What a snapshot that is taken now sees.
use Rattle.std.proofs.Common.{◌≡◌, ◌⊎◌, ◌<◌, ◌≤◌, ℕ, refl, ap, sym, ◌∙◌, Bool, true, false, ◌&&◌, ◌||◌, List, length, inl, inr, arith}
use Rattle.std.specs.Prelude.{nat_lt, ◌==◌, not}
use Rattle.std.proofs.lemmas.Bool.{both_ways, lt-ltb, le-ltb, eq-eqb, or_left, or_right, and_from, not_from_true, not_from_false}
use Rattle.stamp.specs.declared.Name.{Name}
use Rattle.kv_model.specs.History.{Entry, released}
use Rattle.kv_model.specs.Machine.{Machine, Transaction, Phase, Running, Failed, Prepared, Resolving, Leaving, name_in}
use Rattle.kv_model.specs.Valid.{Valid, PhaseStands}
use Rattle.kv_model.proofs.Releases.{released-same, false-from}
use Rattle.snapshot.specs.Sight.{Sight, Ascends, is_listed, is_seen, least_or, sight_at}
use Rattle.snapshot.specs.Matters.{Counts, IsLive, IsUnreleased, IsRunning, AreRunning, SeesFirst}
use Rattle.snapshot.proofs.Listed.{listed-within, ascends-least, ascends-bound}

-- ---- the rule, case by case

pub seen-earlier : (s : Sight) (x : Name) → x.run < s.run → is_seen s x ≡ true
seen-earlier s x lt = or_left (nat_lt x.run s.run) ((x.run == s.run) && (nat_lt x.id s.min || (nat_lt x.id s.max && not (is_listed s.list x.id)))) (lt-ltb x.run s.run lt)

pub seen-unlisted : (s : Sight) (x : Name) → x.run ≡ s.run → x.id < s.max → is_listed s.list x.id ≡ false → is_seen s x ≡ true
seen-unlisted s x run lt none = or_right (nat_lt x.run s.run) ((x.run == s.run) && (nat_lt x.id s.min || (nat_lt x.id s.max && not (is_listed s.list x.id))))
    (and_from (x.run == s.run) (nat_lt x.id s.min || (nat_lt x.id s.max && not (is_listed s.list x.id))) (eq-eqb x.run s.run run)
    (or_right (nat_lt x.id s.min) (nat_lt x.id s.max && not (is_listed s.list x.id))
    (and_from (nat_lt x.id s.max) (not (is_listed s.list x.id)) (lt-ltb x.id s.max lt) (not_from_false (is_listed s.list x.id) none))))

-- in its run and not below min: seen as the rest of the rule says
above-min : (s : Sight) (x : Name) → x.run ≡ s.run → s.min ≤ x.id → is_seen s x ≡ (nat_lt x.id s.max && not (is_listed s.list x.id))
above-min s x run le = rw (le-ltb x.run s.run (omega arith), eq-eqb x.run s.run run, le-ltb x.id s.min le) refl

pub unseen-listed : (s : Sight) (x : Name) → x.run ≡ s.run → s.min ≤ x.id → is_listed s.list x.id ≡ true → is_seen s x ≡ false
unseen-listed s x run le listed = above-min s x run le ∙ unseen (nat_lt x.id s.max) (is_listed s.list x.id) listed where
  unseen : (b l : Bool) → l ≡ true → (b && not l) ≡ false
  unseen true l e = not_from_true l e
  unseen false l e = refl

pub unseen-late : (s : Sight) (x : Name) → x.run ≡ s.run → s.min ≤ s.max → s.max ≤ x.id → is_seen s x ≡ false
unseen-late s x run order le = above-min s x run (omega arith) ∙ rw (le-ltb x.id s.max le) refl

-- ---- a snapshot of all entries

-- a transaction that is neither prepared nor resolving was not released
pub unreleased-by : (history : List Entry) (name : Name) (t : Transaction) (p : Phase) → IsUnreleased p → PhaseStands p history name t → released history (length history) name ≡ false
unreleased-by history name t Running is stands = stands
unreleased-by history name t Failed is stands = stands
unreleased-by history name t Leaving is stands = stands
unreleased-by history name t (Prepared stamp) is stands = absurd is
unreleased-by history name t Resolving is stands = absurd is

-- prepared or resolving with writes it was
pub released-by : (history : List Entry) (name : Name) (t : Transaction) (p : Phase) → (IsUnreleased p → ⊥) → Counts p t → PhaseStands p history name t → released history (length history) name ≡ true
released-by history name t Running isnt counts stands = absurd (isnt tt)
released-by history name t Failed isnt counts stands = absurd (isnt tt)
released-by history name t Leaving isnt counts stands = absurd (isnt tt)
released-by history name t (Prepared stamp) isnt counts stands = stands.released.writes counts.0 counts.1
released-by history name t Resolving isnt counts stands = stands.writes counts.0 counts.1

decide-unreleased : (p : Phase) → IsUnreleased p ⊎ (IsUnreleased p → ⊥)
decide-unreleased Running = inl tt
decide-unreleased Failed = inl tt
decide-unreleased Leaving = inl tt
decide-unreleased (Prepared stamp) = inr (λ e. e)
decide-unreleased Resolving = inr (λ e. e)

running-unreleased : (m : Machine) (id : ℕ) → Valid m → IsRunning m id → released m.history (length m.history) (record { run = m.run; id = id }) ≡ false
running-unreleased m id v r =
    let none = unreleased-by m.history (name_in m.run r.transaction) r.transaction r.transaction.phase r.phase (v.sessions.each r.session r.transaction r.there).phase in
    released-same (record { run = m.run; id = id }) (name_in m.run r.transaction) m.history (length m.history) refl (sym r.same) ∙ none

sees-released : (m : Machine) (ids : List ℕ) (x : Name) → Valid m → AreRunning m ids → released m.history (length m.history) x ≡ true → is_seen (sight_at m.run m.next ids) x ≡ true
sees-released m ids x v are e = elim (v.names x e) [
  | inl earlier ↦ seen-earlier (sight_at m.run m.next ids) x earlier
  | inr drawn ↦ seen-unlisted (sight_at m.run m.next ids) x drawn.0 drawn.2 (false-from (is_listed ids x.id) (λ listed.
      let none = running-unreleased m x.id v (are.each x.id listed) in
      both_ways (released m.history (length m.history) x) (released-same x (record { run = m.run; id = x.id }) m.history (length m.history) drawn.0 refl ∙ none) e))
]

misses-running : (m : Machine) (ids : List ℕ) (x : Name) → Valid m → Ascends 1 ids m.next → AreRunning m ids → x.run ≡ m.run → IsRunning m x.id → is_seen (sight_at m.run m.next ids) x ≡ released m.history (length m.history) x
misses-running m ids x v a are run r =
    let listed = are.all x.id r in
    let within = listed-within (least_or m.next ids) m.next ids x.id (ascends-least 1 m.next ids a) listed in
    unseen-listed (sight_at m.run m.next ids) x run within.0 listed
    ∙ sym (released-same x (record { run = m.run; id = x.id }) m.history (length m.history) run refl ∙ running-unreleased m x.id v r)

sees-live : (m : Machine) (ids : List ℕ) (x : Name) → Valid m → Ascends 1 ids m.next → AreRunning m ids → IsLive m x → is_seen (sight_at m.run m.next ids) x ≡ released m.history (length m.history) x
sees-live m ids x v a are l = elim (decide-unreleased l.transaction.phase) [
  | inl is ↦ misses-running m ids x v a are (ap (λ (n : Name). n.run) l.name) (record {
    session = l.session;
    transaction = l.transaction;
    there = l.there;
    drawn = (let d = l.drawn in let same : x.id ≡ l.transaction.id = ap (λ (n : Name). n.id) l.name in omega arith);
    same = sym (ap (λ (n : Name). n.id) l.name);
    phase = is;
  })
  | inr isnt ↦
      let yes : released m.history (length m.history) x ≡ true =
      ap (released m.history (length m.history)) l.name ∙ released-by m.history (name_in m.run l.transaction) l.transaction l.transaction.phase isnt l.counts (v.sessions.each l.session l.transaction l.there).phase in
      sees-released m ids x v are yes ∙ sym yes
]

pub sees-first : (m : Machine) (ids : List ℕ) → Valid m → Ascends 1 ids m.next → AreRunning m ids → SeesFirst m (length m.history) (sight_at m.run m.next ids)
sees-first m ids v a are = record {
  run = refl;
  order = ascends-bound (least_or m.next ids) m.next ids (ascends-least 1 m.next ids a);
  drawn = omega arith;
  within = omega arith;
  sees = λ x matters. elim matters [
    | inl e ↦ sees-released m ids x v are e ∙ sym e
    | inr live ↦ sees-live m ids x v a are live
  ];
}
