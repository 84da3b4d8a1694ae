-- The run and the ids of the sessions go on to fit.
use Rattle.std.proofs.Common.{◌≡◌, ◌≢◌, ◌<◌, ◌≤◌, ◌+◌, ℕ, zero, suc, refl, ap, sym, ◌∙◌, Bool, true, false, List, [], ◌∷◌, length, subst, arith}
use Rattle.std.specs.Prelude.{if◌then◌else◌, slice_index_or, slice_set}
use Rattle.std.proofs.lemmas.List.{get_or-set_same, get_or-set_other}
use Rattle.limits.specs.declared.TheConstants.{NUMBER_MAX}
use Rattle.snapshot.specs.Sight.{sight_at}
use Rattle.txn_table.specs.declared.phase.Phase.{Phase}
use Rattle.txn_table.specs.declared.phase.Phase.TheVariants as phase
use Rattle.txn_table.specs.SessionData.{SessionData, is_unreleased, opened}
use Rattle.txn_table.specs.Tabled.{Table, begun, drawn, ended, fresh, in_phase, one_more, phase_of, released_in, session_of}
use Rattle.engine_world.proofs.Appended.{append-default}
use Rattle.engine.specs.Sizes.{NamesFit, id_of}

-- what holds of the new element and of each that was there
set-each : {A : Type 0} (P : A → Type 0) (xs : List A) (i j : ℕ) (x d : A) → P x → P (slice_index_or xs j d) → P (slice_index_or (slice_set xs i x) j d)
set-each P [] i j x d new old = old
set-each P (y ∷ ys) zero zero x d new old = new
set-each P (y ∷ ys) zero (suc j) x d new old = old
set-each P (y ∷ ys) (suc i) zero x d new old = old
set-each P (y ∷ ys) (suc i) (suc j) x d new old = set-each P ys i j x d new old

-- the table has one session as it is now
record HasSeat (t now : Table) (session : ℕ) (u : SessionData) : Type 0 where
  run : now.run ≡ t.run
  sessions : now.sessions ≡ slice_set t.sessions session u

-- the names of the table fit, and the other sessions have the ids that they had
pub record TableFits (t now : Table) (session : ℕ) : Type 0 where
  pub names : NamesFit now
  pub others : (r : ℕ) → r ≢ session → id_of now r ≡ id_of t r

seat-fits : (t now : Table) (session : ℕ) (u : SessionData) → HasSeat t now session u → NamesFit t → t.next ≤ now.next → now.next ≤ NUMBER_MAX + 1 → u.id < now.next → u.sight.run ≡ t.run → TableFits t now session
seat-fits t now session u s names grown most below own = record {
  names = record {
    begun = (let same = s.run in let was = names.begun in omega (arith, same, was));
    run = (let same = s.run in let was = names.run in omega (arith, same, was));
    first = (let was = names.first in omega (arith, was, grown));
    next = most;
    drawn = λ r. subst (λ (xs : List SessionData). (slice_index_or xs r (opened now.run)).id < now.next) (sym s.sessions)
        (set-each (λ (x : SessionData). x.id < now.next) t.sessions session r u (opened now.run) below
        (subst (λ (n : ℕ). (slice_index_or t.sessions r (opened n)).id < now.next) (sym s.run) (let was = names.drawn r in omega (arith, was, grown))));
    sights = λ r. subst (λ (xs : List SessionData). (slice_index_or xs r (opened now.run)).sight.run ≡ now.run) (sym s.sessions)
        (set-each (λ (x : SessionData). x.sight.run ≡ now.run) t.sessions session r u (opened now.run) (own ∙ sym s.run)
        (subst (λ (n : ℕ). (slice_index_or t.sessions r (opened n)).sight.run ≡ now.run) (sym s.run) (names.sights r ∙ sym s.run)));
  };
  others = λ r other. ap (λ (xs : List SessionData). (slice_index_or xs r (opened now.run)).id) s.sessions
      ∙ (ap (λ (x : SessionData). x.id) (get_or-set_other t.sessions session r u (opened now.run) other) ∙ ap (λ (n : ℕ). (slice_index_or t.sessions r (opened n)).id) s.run);
}

module _ (t : Table) (session : ℕ) (names : NamesFit t) where
  pub begun-names : (read : ℕ) → TableFits t (begun t session read) session
  begun-names read = seat-fits t (begun t session read) session (record { phase = phase.Running; id = 0; read = read; sight = sight_at t.run t.next t.running; written = [] }) (record { run = refl; sessions = refl }) names (omega arith) names.next
      (let first = names.first in omega (arith, first)) refl

  -- its seat in a phase
  abbrev seat_in : Phase → SessionData
  seat_in p = record (session_of t session) { phase = p }

  pub released-names : (p : Phase) → TableFits t (released_in t session p) session
  released-names p = seat-fits t (released_in t session p) session (seat_in p) (record { run = refl; sessions = refl }) names (omega arith) names.next (names.drawn session) (names.sights session)

  pub phase-names : (p : Phase) → TableFits t (in_phase t session p) session
  phase-names p = seat-fits t (in_phase t session p) session (seat_in p) (record { run = refl; sessions = refl }) names (omega arith) names.next (names.drawn session) (names.sights session)

  pub ended-names : TableFits t (ended t session) session
  ended-names = by (is_unreleased (phase_of t session)) where
    by : (b : Bool) → TableFits t (if b then released_in t session phase.Idle else in_phase t session phase.Idle) session
    by true = released-names phase.Idle
    by false = phase-names phase.Idle

  -- an id more
  pub drawn-names : t.next ≤ NUMBER_MAX → TableFits t (drawn t session) session
  drawn-names more = seat-fits t (drawn t session) session (record (session_of t session) { id = t.next }) (record { run = refl; sessions = refl }) names (omega arith) (omega (arith, more)) (omega arith) (names.sights session)

  pub drawn-some : session < length t.sessions → 1 ≤ id_of (drawn t session) session
  drawn-some inside = let own = ap (λ (x : SessionData). x.id) (get_or-set_same t.sessions session (record (session_of t session) { id = t.next }) (opened t.run) inside) in let first = names.first in omega (arith, own, first)

  -- a session more
  pub more-names : NamesFit (one_more t)
  more-names = record {
    begun = names.begun;
    run = names.run;
    first = names.first;
    next = names.next;
    drawn = λ r. subst (λ (x : SessionData). x.id < t.next) (sym (append-default t.sessions (opened t.run) r)) (names.drawn r);
    sights = λ r. subst (λ (x : SessionData). x.sight.run ≡ t.run) (sym (append-default t.sessions (opened t.run) r)) (names.sights r);
  }

pub more-id : (t : Table) (r : ℕ) → id_of (one_more t) r ≡ id_of t r
more-id t r = ap (λ (x : SessionData). x.id) (append-default t.sessions (opened t.run) r)

pub fresh-names : (run : ℕ) → 1 ≤ run → run ≤ NUMBER_MAX → NamesFit (fresh run 0)
fresh-names run begun most = record { begun = begun; run = most; first = omega arith; next = omega arith; drawn = λ r. (let less : 0 < 1 = omega arith in less); sights = λ r. refl }
