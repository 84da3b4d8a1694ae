-- What a running checkpoint captures of what is before a floor, and the floor with which one starts.
use Rattle.std.specs.Prelude.{◌≡◌, ℕ, ◌<◌, ◌≤◌, ◌==◌, ◌&&◌, ◌||◌, true, false, nat_lt, not, List, [], ◌∷◌, Option, MatchOption, refl}
use Rattle.std.proofs.Common.{inl, inr, sym, ◌∙◌, subst, arith}
use Rattle.std.proofs.lemmas.Bool.{and_from, and_parts, both_ways, cases_lt, eq-eqb, eqb-true, lt-ltb, ltb-true, or_cases, or_left, or_right}
use Rattle.kv_model.specs.Machine.{Checkpoint, Machine, Transaction, name_of}
use Rattle.kv_model.proofs.Finishing.{line-committed}
use Rattle.snapshot.specs.Matters.{AreUnended, SeesCommitted}
use Rattle.snapshot.specs.Sight.{Sight, is_listed, is_seen, least_or}
use Rattle.stamp.specs.declared.Name.{Name}
use Rattle.ckpt_step.specs.Floors.{Respects, is_before}
use Rattle.ckpt_step.specs.Moments.{CapturesBefore, floor_at}

-- ---- what a snapshot sees

-- each name before its least id, and of an earlier run
pub seen_before : (s : Sight) (x : Name) → is_before (floor_at s) x ≡ true → is_seen s x ≡ true
seen_before s x is = elim (or_cases (nat_lt x.run s.run) ((x.run == s.run) && (nat_lt 0 x.id && nat_lt x.id s.min)) is) [
  | inl earlier ↦ or_left (nat_lt x.run s.run) ((x.run == s.run) && (nat_lt x.id s.min || (nat_lt x.id s.max && not (is_listed s.list x.id)))) earlier
  | inr own ↦
      let run = and_parts (x.run == s.run) (nat_lt 0 x.id && nat_lt x.id s.min) own in
      let id = and_parts (nat_lt 0 x.id) (nat_lt x.id s.min) run.1 in
      or_right (nat_lt x.run s.run) ((x.run == s.run) && (nat_lt x.id s.min || (nat_lt x.id s.max && not (is_listed s.list x.id))))
      (and_from (x.run == s.run) (nat_lt x.id s.min || (nat_lt x.id s.max && not (is_listed s.list x.id))) run.0 (or_left (nat_lt x.id s.min) (nat_lt x.id s.max && not (is_listed s.list x.id)) id.1))
]

-- so the checkpoint captures each version before it
pub captures_at : (m : Machine) (c : Checkpoint) (s : Sight) → SeesCommitted m c.prefix s → CapturesBefore m c (floor_at s)
captures_at m c s sees table key v there before = sym (sees.sees v.window.name (inl (line-committed m.history table key v there))) ∙ seen_before s v.window.name before

pub captures_under : (m : Machine) (c : Checkpoint) (s : Sight) (floor : Name) → SeesCommitted m c.prefix s → ((x : Name) → is_before floor x ≡ true → is_before (floor_at s) x ≡ true) → CapturesBefore m c floor
captures_under m c s floor sees above table key v there before = captures_at m c s sees table key v there (above v.window.name before)

-- ---- the floor of one that starts

-- an id of this run that is not before a floor of this run is at least its id
past_floor : (floor x : Name) → x.run ≡ floor.run → 0 < x.id → is_before floor x ≡ false → floor.id ≤ x.id
past_floor floor x run some isnt = elim (cases_lt x.id floor.id) [
  | inr past ↦ past
  | inl low ↦ absurd (both_ways (is_before floor x) isnt
      (or_right (nat_lt x.run floor.run) ((x.run == floor.run) && (nat_lt 0 x.id && nat_lt x.id floor.id))
      (and_from (x.run == floor.run) (nat_lt 0 x.id && nat_lt x.id floor.id) (eq-eqb x.run floor.run run) (and_from (nat_lt 0 x.id) (nat_lt x.id floor.id) (lt-ltb 0 x.id some) (lt-ltb x.id floor.id low)))))
]

module _ (m : Machine) (s : Sight) (floor : Name) (run : s.run ≡ m.run) (least : s.min ≡ least_or m.next s.list) (unended : AreUnended m s.list) (respects : Respects m floor) where
  -- of this run, the least id that has not ended is at least that of the floor
  least_past : (ids : List ℕ) → ids ≡ s.list → floor.run ≡ m.run → floor.id ≤ m.next → floor.id ≤ least_or m.next ids
  least_past [] same own next = next
  least_past (id ∷ ids) same own next =
      let listed : is_listed (id ∷ ids) id ≡ true = or_left (id == id) (is_listed ids id) (eq-eqb id id refl) in
      let living = unended.each id (subst (λ (l : List ℕ). is_listed l id ≡ true) same listed) in
      let some : 0 < living.transaction.id = subst (λ (n : ℕ). 0 < n) (sym living.same) living.drawn in
      let isnt : is_before floor (name_of m living.transaction) ≡ false = subst (λ (o : Option Transaction). MatchOption o (Unit {0}) (λ t. is_before floor (name_of m t) ≡ false)) living.there (respects.living living.session) in
      subst (λ (n : ℕ). floor.id ≤ n) living.same (past_floor floor (name_of m living.transaction) (sym own) some isnt)

  -- so what is before a floor that holds is before the one of now
  pub above_now : (x : Name) → is_before floor x ≡ true → is_before (floor_at s) x ≡ true
  above_now x is = elim (or_cases (nat_lt x.run floor.run) ((x.run == floor.run) && (nat_lt 0 x.id && nat_lt x.id floor.id)) is) [
    | inl earlier ↦ earlier_now (let low = ltb-true x.run floor.run earlier in elim respects.next [ inl less ↦ omega (arith, low, less, run) | inr same ↦ let own = same.0 in omega (arith, low, own, run) ])
    | inr own ↦
        let parts = and_parts (x.run == floor.run) (nat_lt 0 x.id && nat_lt x.id floor.id) own in
        let ids = and_parts (nat_lt 0 x.id) (nat_lt x.id floor.id) parts.1 in
        let same = eqb-true x.run floor.run parts.0 in
        let low = ltb-true x.id floor.id ids.1 in
        elim respects.next [
          | inl less ↦ earlier_now (omega (arith, less, same, run))
          | inr here ↦
              let own_run = here.0 in
              let past = least_past s.list refl here.0 here.1 in
              or_right (nat_lt x.run s.run) ((x.run == s.run) && (nat_lt 0 x.id && nat_lt x.id s.min))
              (and_from (x.run == s.run) (nat_lt 0 x.id && nat_lt x.id s.min) (eq-eqb x.run s.run (omega (arith, same, own_run, run))) (and_from (nat_lt 0 x.id) (nat_lt x.id s.min) ids.0 (lt-ltb x.id s.min (omega (arith, low, past, least)))))
        ]
  ] where
    earlier_now : x.run < s.run → is_before (floor_at s) x ≡ true
    earlier_now less = or_left (nat_lt x.run s.run) ((x.run == s.run) && (nat_lt 0 x.id && nat_lt x.id s.min)) (lt-ltb x.run s.run less)
