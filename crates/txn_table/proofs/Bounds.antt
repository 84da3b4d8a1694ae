-- What the floor and the pin stamp are good for.
use Rattle.std.proofs.Common.{◌≡◌, ◌<◌, ◌≤◌, ◌+◌, ℕ, zero, suc, refl, ap, sym, ◌∙◌, Bool, true, false, List, [], ◌∷◌, length, inl, inr, subst, arith}
use Rattle.std.specs.Prelude.{◌==◌, ◌⊎◌, ◌&&◌, ◌||◌, not, nat_lt, min, fold, if◌then◌else◌, Option, Some, None, slice_index_or, option_map, option_and_then}
use Rattle.std.specs.List.{filter_map}
use Rattle.std.proofs.lemmas.Bool.{lt-ltb, eq-eqb, eqb-true, ltb-true, or_left, or_right, or_cases, and_from, and_parts, cases_Bool}
use Rattle.stamp.specs.declared.Name.{Name}
use Rattle.kv_model.specs.Machine.{Machine, Transaction, Checkpoint, Phase as ModelPhase, Running as ModelRunning, Failed as ModelFailed, Prepared as ModelPrepared, Resolving as ModelResolving, Leaving as ModelLeaving, transaction_of, of_some}
use Rattle.kv_model.specs.Decisions.{first_session, is_resolving as model_resolving}
use Rattle.kv_model.specs.Droppable.{pin, read_stamps}
use Rattle.kv_model.proofs.Covering.{fold-min-start}
use Rattle.snapshot.specs.Sight.{Sight, is_listed, is_seen}
use Rattle.snapshot.proofs.Sighting.{seen-earlier}
use Rattle.txn_table.specs.declared.phase.Phase.{Phase}
use Rattle.txn_table.specs.declared.phase.Phase.TheVariants.{Idle, Running, Failed, Prepared, Resolving, Leaving}
use Rattle.txn_table.specs.SessionData.{SessionData, opened, is_idle, is_busy, is_resolving, phase_in, MayBe}
use Rattle.txn_table.specs.Tabled.{Table, session_of, phase_of, read_of, min_of, lower_of, pin_of, floor_of, first_in}
use Rattle.txn_table.specs.Stands.{SessionStands, TableStands}
use Rattle.txn_table.specs.TableLaws.{IsSeenByAll, LowestAreTheMachines}
use Rattle.snapshot.specs.Past.{is_below}
use Rattle.txn_table.proofs.Standing.{state-at}

-- ---- the floor

seen-low : (s : Sight) (x : Name) → x.run ≡ s.run → x.id < s.min → is_seen s x ≡ true
seen-low s x run lt = or_right (nat_lt x.run s.run) ((x.run == s.run) && (nat_lt x.id s.min || (nat_lt x.id s.max && not (is_listed s.list x.id))))
    (and_from (x.run == s.run) (nat_lt x.id s.min || (nat_lt x.id s.max && not (is_listed s.list x.id))) (eq-eqb x.run s.run run)
    (or_left (nat_lt x.id s.min) (nat_lt x.id s.max && not (is_listed s.list x.id)) (lt-ltb x.id s.min lt)))

-- a name that is below another
abbrev IsUnder : Name → Name → Type 0
IsUnder x floor = (x.run < floor.run) ⊎ ((x.run ≡ floor.run) × (x.id < floor.id))

is-under : (x floor : Name) → is_below x floor ≡ true → IsUnder x floor
is-under x floor is = elim (or_cases (nat_lt x.run floor.run) ((x.run == floor.run) && nat_lt x.id floor.id) is) [
  | inl earlier ↦ inl (ltb-true x.run floor.run earlier)
  | inr here ↦ let parts = and_parts (x.run == floor.run) (nat_lt x.id floor.id) here in inr (eqb-true x.run floor.run parts.0, ltb-true x.id floor.id parts.1)
]

seen-under : (s : Sight) (x floor : Name) → s.run ≡ floor.run → floor.id ≤ s.min → IsUnder x floor → is_seen s x ≡ true
seen-under s x floor run le (inl earlier) = seen-earlier s x (omega arith)
seen-under s x floor run le (inr here) = seen-low s x (here.0 ∙ sym run) (let low = here.1 in omega arith)

-- the least of some sessions is at most that of each
least-at : (f : SessionData → Option ℕ) (d : SessionData) (states : List SessionData) (s start n : ℕ) → f d ≡ None → f (slice_index_or states s d) ≡ Some n → fold min start (filter_map f states) ≤ n
least-at f d [] s start n none e = let both : None ≡ Some n = sym none ∙ e in absurd (cc)
least-at f d (x ∷ states) zero start n none e = rw e (let low = fold-min-start (min start n) (filter_map f states) in omega arith)
least-at f d (x ∷ states) (suc s) start n none e = by-head (f x) refl (λ from. least-at f d states s from n none e) where
  by-head : (o : Option ℕ) → f x ≡ o → ((from : ℕ) → fold min from (filter_map f states) ≤ n) → fold min start (filter_map f (x ∷ states)) ≤ n
  by-head None is rest = rw is (rest start)
  by-head (Some k) is rest = rw is (rest (min start k))

min-at : (s : SessionData) → is_idle s.phase ≡ false → min_of s ≡ Some s.sight.min
min-at s busy = ap (λ b. if b then None else Some s.sight.min) busy

pub busy-has : (p : Phase) → is_idle p ≡ false → phase_in p ≡ None → ⊥
busy-has Idle busy e = absurd (cc)
busy-has Running busy e = absurd (cc)
busy-has Failed busy e = absurd (cc)
busy-has Leaving busy e = absurd (cc)
busy-has (Prepared stamp) busy e = absurd (cc)
busy-has Resolving busy e = absurd (cc)

run-at : (t : Table) (m : Machine) (s : ℕ) → TableStands t m → is_idle (phase_of t s) ≡ false → (session_of t s).sight.run ≡ t.run
run-at t m s stands busy = by-state (transaction_of m s) refl where
  by-state : (o : Option Transaction) → transaction_of m s ≡ o → (session_of t s).sight.run ≡ t.run
  by-state None is = absurd (busy-has (phase_of t s) busy (subst (λ z. SessionStands m (session_of t s) z) is (stands.sessions s)))
  by-state (Some x) is = (state-at t m s x stands is).sees.run ∙ sym stands.run

pub floors-seen : (t : Table) (m : Machine) (checkpoint : Option Sight) (x : Name) → TableStands t m → is_below x (floor_of t checkpoint) ≡ true → IsSeenByAll t checkpoint x
floors-seen t m checkpoint x stands below = record {
  sessions = λ s busy. seen-under (session_of t s).sight x (floor_of t checkpoint) (run-at t m s stands busy)
      (least-at min_of (opened t.run) t.sessions s (lower_of t.next (option_map (λ (c : Sight). c.min) checkpoint)) (session_of t s).sight.min refl (min-at (session_of t s) busy)) under;
  checkpoints = λ c is run. seen-under c x (floor_of t checkpoint) run
      (let low = fold-min-start (lower_of t.next (option_map (λ (z : Sight). z.min) checkpoint)) (filter_map min_of t.sessions) in
      let at : lower_of t.next (option_map (λ (z : Sight). z.min) checkpoint) ≡ min t.next c.min = ap (λ o. lower_of t.next (option_map (λ (z : Sight). z.min) o)) is in omega arith) under;
} where
  under : IsUnder x (floor_of t checkpoint)
  under = is-under x (floor_of t checkpoint) below

-- the floor is at most the next id
pub floor-low : (t : Table) (checkpoint : Option Sight) → (floor_of t checkpoint).id ≤ t.next
floor-low t checkpoint = let low = fold-min-start (lower_of t.next (option_map (λ (z : Sight). z.min) checkpoint)) (filter_map min_of t.sessions) in let least = lower-most checkpoint in omega arith where
  lower-most : (o : Option Sight) → lower_of t.next (option_map (λ (z : Sight). z.min) o) ≤ t.next
  lower-most None = omega arith
  lower-most (Some c) = omega arith

-- ---- the pin stamp

abbrev pub stamp_read : Option Transaction → Option ℕ
stamp_read s = option_and_then (λ (t : Transaction). if t.read == 0 then None else Some t.read) s

idle-none : (p : Phase) → phase_in p ≡ None → is_idle p ≡ true
idle-none Idle e = refl
idle-none Running e = absurd (cc)
idle-none Failed e = absurd (cc)
idle-none Leaving e = absurd (cc)
idle-none (Prepared stamp) e = absurd (cc)
idle-none Resolving e = absurd (cc)

pub busy-some : (p : Phase) (q : ModelPhase) → MayBe p q → is_idle p ≡ false
busy-some Idle q e = absurd e
busy-some Running q e = refl
busy-some Failed q e = refl
busy-some Leaving q e = refl
busy-some (Prepared stamp) q e = refl
busy-some Resolving q e = refl

reads-alike : (m : Machine) (x : SessionData) (o : Option Transaction) → SessionStands m x o → read_of x ≡ stamp_read o
reads-alike m x None stands = ap (λ b. if b then None else (if x.read == 0 then None else Some x.read)) (idle-none x.phase stands)
reads-alike m x (Some t) stands = ap (λ b. if b then None else (if x.read == 0 then None else Some x.read)) (busy-some x.phase t.phase stands.phase) ∙ ap (λ r. if r == 0 then None else Some r) stands.read

filters-alike : {A B : Type 0} (f : A → Option ℕ) (g : B → Option ℕ) (d : A) (e : B) (xs : List A) (ys : List B) → length xs ≡ length ys → ((s : ℕ) → f (slice_index_or xs s d) ≡ g (slice_index_or ys s e)) → filter_map f xs ≡ filter_map g ys
filters-alike f g d e [] [] same alike = refl
filters-alike f g d e [] (y ∷ ys) same alike = absurd (omega arith)
filters-alike f g d e (x ∷ xs) [] same alike = absurd (omega arith)
filters-alike {A} {B} f g d e (x ∷ xs) (y ∷ ys) same alike = by-head (g y) refl (filters-alike f g d e xs ys (omega arith) (λ s. alike (suc s))) where
  by-head : (o : Option ℕ) → g y ≡ o → filter_map f xs ≡ filter_map g ys → filter_map f (x ∷ xs) ≡ filter_map g (y ∷ ys)
  by-head None is rest = let first : f x ≡ None = alike 0 ∙ is in rw (first, is) rest
  by-head (Some n) is rest = let first : f x ≡ Some n = alike 0 ∙ is in rw (first, is) (ap (λ l. n ∷ l) rest)

pub pins-same : (t : Table) (m : Machine) → TableStands t m → pin_of t m.oldest (option_map (λ (c : Checkpoint). c.oldest) m.checkpoint) ≡ pin m
pins-same t m stands = ap (λ l. fold min (lower_of m.oldest (option_map (λ (c : Checkpoint). c.oldest) m.checkpoint)) l)
    (filters-alike read_of stamp_read (opened t.run) None t.sessions m.sessions stands.count (λ s. reads-alike m (session_of t s) (transaction_of m s) (stands.sessions s)))
    ∙ ap (λ b. fold min b (read_stamps m)) (start m.checkpoint) where
      start : (o : Option Checkpoint) → lower_of m.oldest (option_map (λ (c : Checkpoint). c.oldest) o) ≡ of_some m.oldest (λ (c : Checkpoint). min m.oldest c.oldest) o
      start None = refl
      start (Some c) = refl

-- ---- the lowest session

-- a test of phases that is that of the machine's finds the same session
lowest-alike : (test : Phase → Bool) (by : Transaction → Bool) (m : Machine) (at : ℕ) (d : SessionData) (states : List SessionData) (sessions : List (Option Transaction))
    → ((x : SessionData) → phase_in x.phase ≡ None → test x.phase ≡ false) → ((x : SessionData) (t : Transaction) → MayBe x.phase t.phase → test x.phase ≡ by t)
    → length states ≡ length sessions → ((s : ℕ) → SessionStands m (slice_index_or states s d) (slice_index_or sessions s None)) → first_in test at states ≡ first_session by at sessions
lowest-alike test by m at d [] [] idle alike same stands = refl
lowest-alike test by m at d [] (o ∷ sessions) idle alike same stands = absurd (omega arith)
lowest-alike test by m at d (x ∷ states) [] idle alike same stands = absurd (omega arith)
lowest-alike test by m at d (x ∷ states) (None ∷ sessions) idle alike same stands = rw (idle x (stands 0)) (lowest-alike test by m (at + 1) d states sessions idle alike (omega arith) (λ s. stands (suc s)))
lowest-alike test by m at d (x ∷ states) (Some t ∷ sessions) idle alike same stands =
    rw (alike x t (stands 0).phase) (ap (λ rest. if by t then Some at else rest) (lowest-alike test by m (at + 1) d states sessions idle alike (omega arith) (λ s. stands (suc s))))

resolving-alike : (p : Phase) (q : ModelPhase) → MayBe p q → is_resolving p ≡ model_resolving q
resolving-alike Idle q e = absurd e
resolving-alike Running ModelRunning e = refl
resolving-alike Running ModelFailed e = refl
resolving-alike Running ModelLeaving e = refl
resolving-alike Running (ModelPrepared stamp) e = absurd e
resolving-alike Running ModelResolving e = absurd e
resolving-alike Failed q (inl e) = ap model_resolving (sym e)
resolving-alike Failed q (inr e) = ap model_resolving (sym e)
resolving-alike Leaving q e = ap model_resolving (sym e)
resolving-alike (Prepared stamp) q e = ap model_resolving (sym e)
resolving-alike Resolving q e = ap model_resolving (sym e)

pub lowest-are : LowestAreTheMachines
lowest-are t m stands = record {
  active = lowest-alike is_busy (λ x. true) m 0 (opened t.run) t.sessions m.sessions (λ x none. ap not (idle-none x.phase none)) (λ x y may. ap not (busy-some x.phase y.phase may)) stands.count stands.sessions;
  resolving = lowest-alike is_resolving (λ x. model_resolving x.phase) m 0 (opened t.run) t.sessions m.sessions (λ x none. not-resolving x.phase none) (λ x y may. resolving-alike x.phase y.phase may) stands.count stands.sessions;
} where
  not-resolving : (p : Phase) → phase_in p ≡ None → is_resolving p ≡ false
  not-resolving p none = elim (cases_Bool (is_resolving p)) [ inl is ↦ absurd (at p is none) | inr isnt ↦ isnt ] where
    at : (q : Phase) → is_resolving q ≡ true → phase_in q ≡ None → ⊥
    at Resolving is none = absurd (cc)
    at Idle is none = absurd (cc)
    at Running is none = absurd (cc)
    at Failed is none = absurd (cc)
    at Leaving is none = absurd (cc)
    at (Prepared stamp) is none = absurd (cc)
