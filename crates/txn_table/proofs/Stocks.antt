-- The memory of a table over its calls.
use Rattle.std.proofs.Common.{◌≡◌, ◌≤◌, ◌-◌, ◌+◌, ℕ, zero, suc, refl, ap, sym, ◌∙◌, List, [], ◌∷◌, ◌++◌, length, replicate, subst, arith, length-append}
use Rattle.std.proofs.lemmas.List.{length-set}
use Rattle.limits.specs.declared.TheConstants.{SESSIONS_MAX}
use Rattle.txn_table.specs.SessionData.{SessionData, opened}
use Rattle.txn_table.specs.Tabled.{Table, HasRoom, IsStocked}
use Rattle.txn_table.proofs.TableLemmas.{changed, room-opened}

-- with one session changed, and the running ids where they were or in more room
pub stocked : (t : Table) (s : ℕ) (u : SessionData) (list : List ℕ) (next ids more places : ℕ) (spare : List SessionData) → IsStocked t ids places spare → ids ≤ more → HasRoom (changed t s u list next) → IsStocked (changed t s u list next) more places spare
stocked t s u list next ids more places spare old grows room = record {
  room = room;
  ids = (let least = old.ids in omega arith);
  places = old.places;
  spare = old.spare ∙ ap (λ n. replicate (SESSIONS_MAX - n) (opened t.run)) (sym (length-set t.sessions s u));
}

-- so where an id is drawn
pub stocked-drawn : (t : Table) (s : ℕ) (u : SessionData) (list : List ℕ) (ids more places : ℕ) (spare : List SessionData) → IsStocked t ids places spare → ids ≤ more → HasRoom (changed t s u list (t.next + 1)) → IsStocked (changed t s u list (t.next + 1)) more places spare
stocked-drawn t s u list ids more places spare old grows room = stocked t s u list (t.next + 1) ids more places spare old grows room

-- the last of some new sessions
pub last-new : (n : ℕ) (x y : SessionData) (rest : List SessionData) → replicate n y ≡ rest ++ x ∷ [] → (x ≡ y) × (n ≡ length rest + 1) × (rest ≡ replicate (length rest) y)
last-new zero x y [] e = absurd (cc)
last-new zero x y (z ∷ rest) e = absurd (cc)
last-new (suc zero) x y [] e = let same : x ≡ y = cc in (same, omega arith, refl)
last-new (suc (suc n)) x y [] e = absurd (cc)
last-new (suc n) x y (z ∷ rest) e =
    let first : z ≡ y = cc in
    let more : replicate n y ≡ rest ++ x ∷ [] = cc in
    let at = last-new n x y rest more in
    let count = at.1 in
    (at.0, omega arith, ap (λ w. w ∷ rest) first ∙ ap (λ l. y ∷ l) at.2)

-- one of the sessions that were not open yet is opened
pub stocked-opened : (t : Table) (ids places more : ℕ) (old rest : List SessionData) (x : SessionData) → IsStocked t ids places old → old ≡ rest ++ x ∷ [] → places ≤ more
    → (x ≡ opened t.run) × IsStocked (record { run = t.run; next = t.next; running = t.running; sessions = t.sessions ++ x ∷ [] }) ids more rest
stocked-opened t ids places more old rest x stocks is grows =
    let last = last-new (SESSIONS_MAX - length t.sessions) x (opened t.run) rest (sym stocks.spare ∙ is) in
    let count = last.1 in
    let longer = length-append t.sessions (x ∷ []) in (
      last.0,
      record {
        room = subst (λ y. HasRoom (record { run = t.run; next = t.next; running = t.running; sessions = t.sessions ++ y ∷ [] })) (sym last.0) (room-opened t stocks.room (omega arith));
        ids = stocks.ids;
        places = (let least = stocks.places in omega arith);
        spare = last.2 ∙ ap (λ n. replicate n (opened t.run)) (let left : length rest ≡ SESSIONS_MAX - length (t.sessions ++ x ∷ []) = omega arith in left);
      },
    )
