-- Tables after a change of one session.
use Rattle.std.proofs.Common.{◌≡◌, ◌⊎◌, ◌<◌, ◌≤◌, ◌+◌, ℕ, zero, suc, refl, ap, sym, ◌∙◌, Bool, true, false, List, [], ◌∷◌, ◌++◌, length, inl, inr, subst, arith, length-append}
use Rattle.std.specs.Prelude.{◌&&◌, nat_lt, if◌then◌else◌, slice_index_or, slice_set, replicate, Result, Ok, Err, OnOk, OnErr}
use Rattle.std.specs.List.{sum_by}
use Rattle.std.proofs.lemmas.Bool.{cases_Bool, cases_eq, both_ways, lt-ltb}
use Rattle.std.proofs.lemmas.List.{get_or-set_same, get_or-set_other, length-set, length-replicate, get_or_read}
use Rattle.std.proofs.lemmas.List.Sums.{sum_by-set, sum_by-append}
use Rattle.limits.specs.declared.TheConstants.{SESSIONS_MAX}
use Rattle.snapshot.specs.Sight.{Ascends, is_listed}
use Rattle.snapshot.proofs.Listed.{listed-within, ascends-bound}
use Rattle.txn_table.specs.declared.phase.Phase.{Phase}
use Rattle.txn_table.specs.declared.phase.Phase.TheVariants.{Running}
use Rattle.txn_table.specs.SessionData.{SessionData, opened, is_unreleased, runs}
use Rattle.txn_table.specs.Tabled.{Table, session_of, without, weight, IsTable, HasRoom}
use Rattle.txn_table.proofs.IdLemmas.{without-none, listed-without, without-listed, ascends-without, without-shorter, ascends-append, listed-append, listed-last, append-listed}

-- the table with one session, the running ids and the next id changed
abbrev pub changed : Table → ℕ → SessionData → List ℕ → ℕ → Table
changed t s u ids next = record { run = t.run; next = next; running = ids; sessions = slice_set t.sessions s u }

pub state-same : (t : Table) (s : ℕ) (u : SessionData) (ids : List ℕ) (next : ℕ) → s < length t.sessions → session_of (changed t s u ids next) s ≡ u
state-same t s u ids next inside = get_or-set_same t.sessions s u (opened t.run) inside

pub state-other : (t : Table) (s r : ℕ) (u : SessionData) (ids : List ℕ) (next : ℕ) → (r ≡ s → ⊥) → session_of (changed t s u ids next) r ≡ session_of t r
state-other t s r u ids next other = get_or-set_other t.sessions s r u (opened t.run) other

-- who sits outside does not run
outside : (t : Table) (s : ℕ) → length t.sessions ≤ s → session_of t s ≡ opened t.run
outside t s le = beyond t.sessions s le where
  beyond : (states : List SessionData) (s : ℕ) → length states ≤ s → slice_index_or states s (opened t.run) ≡ opened t.run
  beyond [] s le = refl
  beyond (x ∷ states) zero le = absurd (omega arith)
  beyond (x ∷ states) (suc s) le = beyond states s (omega arith)

-- what the change has to keep
pub record Keeps (t : Table) (s : ℕ) (u : SessionData) (ids : List ℕ) (next : ℕ) : Type 0 where
  pub inside : s < length t.sessions
  pub ascending : Ascends 1 ids next
  pub mine : u.id < next
  pub grows : t.next ≤ next
  pub here : runs u ≡ true → is_listed ids u.id ≡ true
  pub others : (r : ℕ) → (r ≡ s → ⊥) → runs (session_of t r) ≡ true → is_listed ids (session_of t r).id ≡ true
  pub each : (id : ℕ) → is_listed ids id ≡ true → ((runs u ≡ true) × (u.id ≡ id)) ⊎ ((r : ℕ) × (r ≡ s → ⊥) × (r < length t.sessions) × (runs (session_of t r) ≡ true) × ((session_of t r).id ≡ id))
  pub distinct : runs u ≡ true → (r : ℕ) → (r ≡ s → ⊥) → runs (session_of t r) ≡ true → u.id ≡ (session_of t r).id → ⊥

pub table-changed : (t : Table) (s : ℕ) (u : SessionData) (ids : List ℕ) (next : ℕ) → IsTable t → Keeps t s u ids next → IsTable (changed t s u ids next)
table-changed t s u ids next old k = record {
  ascending = k.ascending;
  listed = λ r is. elim (cases_eq r s) [
    | inl same ↦ let e = at-same r same in subst (λ (x : SessionData). is_listed ids x.id ≡ true) (sym e) (k.here (ap runs (sym e) ∙ is))
    | inr other ↦ let e = state-other t s r u ids next other in subst (λ (x : SessionData). is_listed ids x.id ≡ true) (sym e) (k.others r other (ap runs (sym e) ∙ is))
  ];
  each = λ id is. elim (k.each id is) [
    | inl new ↦ let e = state-same t s u ids next k.inside in (s, inside s k.inside, ap runs e ∙ new.0, ap (λ (x : SessionData). x.id) e ∙ new.1)
    | inr at ↦ let e = state-other t s at.0 u ids next at.1 in (at.0, inside at.0 at.2, ap runs e ∙ at.3, ap (λ (x : SessionData). x.id) e ∙ at.4)
  ];
  drawn = λ r. elim (cases_eq r s) [
    | inl same ↦ let e = at-same r same in subst (λ (x : SessionData). x.id < next) (sym e) k.mine
    | inr other ↦ let e = state-other t s r u ids next other in let low = old.drawn r in let grows = k.grows in
        subst (λ (x : SessionData). x.id < next) (sym e) (omega arith)
  ];
  distinct = λ a b one two same. elim (cases_eq a s) [
    | inl x ↦ elim (cases_eq b s) [
      | inl y ↦ x ∙ sym y
      | inr y ↦ let e = at-same a x in let f = state-other t s b u ids next y in
          absurd (k.distinct (ap runs (sym e) ∙ one) b y (ap runs (sym f) ∙ two) (ap (λ (x : SessionData). x.id) (sym e) ∙ (same ∙ ap (λ (x : SessionData). x.id) f)))
    ]
    | inr x ↦ elim (cases_eq b s) [
      | inl y ↦ let e = at-same b y in let f = state-other t s a u ids next x in
          absurd (k.distinct (ap runs (sym e) ∙ two) a x (ap runs (sym f) ∙ one) (ap (λ (x : SessionData). x.id) (sym e) ∙ (sym same ∙ ap (λ (x : SessionData). x.id) f)))
      | inr y ↦ let e = state-other t s a u ids next x in let f = state-other t s b u ids next y in
          old.distinct a b (ap runs (sym e) ∙ one) (ap runs (sym f) ∙ two) (ap (λ (x : SessionData). x.id) (sym e) ∙ (same ∙ ap (λ (x : SessionData). x.id) f))
    ]
  ];
} where
  at-same : (r : ℕ) → r ≡ s → session_of (changed t s u ids next) r ≡ u
  at-same r same = ap (λ i. session_of (changed t s u ids next) i) same ∙ state-same t s u ids next k.inside

  inside : (r : ℕ) → r < length t.sessions → r < length (slice_set t.sessions s u)
  inside r lt = let e = length-set t.sessions s u in omega arith

-- the weights after a change
pub weights-changed : (t : Table) (s : ℕ) (u : SessionData) → s < length t.sessions → sum_by weight (slice_set t.sessions s u) + weight (session_of t s) ≡ sum_by weight t.sessions + weight u
weights-changed t s u inside = sum_by-set weight t.sessions s u (opened t.run) inside

pub weight-runs : (u : SessionData) → runs u ≡ true → weight u ≡ 1
weight-runs u is = ap (λ b. if b then 1 else 0) is

pub weight-rests : (u : SessionData) → runs u ≡ false → weight u ≡ 0
weight-rests u isnt = ap (λ b. if b then 1 else 0) isnt

pub states-kept : (t : Table) (s : ℕ) (u : SessionData) → HasRoom t → length (slice_set t.sessions s u) ≤ SESSIONS_MAX
states-kept t s u h = let e = length-set t.sessions s u in let most = h.sessions in omega arith

-- ---- changes that leave the running ids

keeps-same : (t : Table) (s : ℕ) (u : SessionData) → IsTable t → s < length t.sessions → u.id ≤ (session_of t s).id → runs u ≡ runs (session_of t s) → (runs u ≡ true → u.id ≡ (session_of t s).id) → Keeps t s u t.running t.next
keeps-same t s u old inside low same id = record {
  inside = inside;
  ascending = old.ascending;
  mine = (let drawn = old.drawn s in omega arith);
  grows = omega arith;
  here = λ is. subst (λ x. is_listed t.running x ≡ true) (sym (id is)) (old.listed s (sym same ∙ is));
  others = λ r other is. old.listed r is;
  each = λ x is. let at = old.each x is in elim (cases_eq at.0 s) [
    | inl e ↦ let run : runs (session_of t s) ≡ true = subst (λ i. runs (session_of t i) ≡ true) e at.2 in
        inl (same ∙ run, id (same ∙ run) ∙ subst (λ i. (session_of t i).id ≡ x) e at.3)
    | inr other ↦ inr (at.0, other, at.1, at.2, at.3)
  ];
  distinct = λ is r other run e. other (old.distinct r s run (sym same ∙ is) (sym e ∙ id is));
}

pub room-same : (t : Table) (s : ℕ) (u : SessionData) → HasRoom t → s < length t.sessions → u.id ≤ (session_of t s).id → runs u ≡ runs (session_of t s) → (runs u ≡ true → u.id ≡ (session_of t s).id) → HasRoom (changed t s u t.running t.next)
room-same t s u h inside low same id = record {
  table = table-changed t s u t.running t.next h.table (keeps-same t s u h.table inside low same id);
  few = (let w = weights-changed t s u inside in let e : weight u ≡ weight (session_of t s) = ap (λ b. if b then 1 else 0) same in let f = h.few in omega arith);
  sessions = states-kept t s u h;
}

-- ---- an id leaves

-- who is unreleased and does not run has no id
no-id : (u : SessionData) → is_unreleased u.phase ≡ true → runs u ≡ false → u.id ≡ 0
no-id u is rests = by-id u.id refl where
  by-id : (id : ℕ) → u.id ≡ id → u.id ≡ 0
  by-id zero e = e
  by-id (suc n) e = absurd (both_ways (runs u) rests (rw is (lt-ltb 0 u.id (omega arith))))

zero-unlisted : (t : Table) → IsTable t → is_listed t.running 0 ≡ false
zero-unlisted t h = false-of (is_listed t.running 0) (λ l. let w = listed-within 1 t.next t.running 0 h.ascending l in let low = w.0 in omega arith) where
  false-of : (b : Bool) → (b ≡ true → ⊥) → b ≡ false
  false-of true f = absurd (f refl)
  false-of false f = refl

pub table-same : (t : Table) (s : ℕ) (u : SessionData) → IsTable t → s < length t.sessions → u.id ≤ (session_of t s).id → runs u ≡ runs (session_of t s) → (runs u ≡ true → u.id ≡ (session_of t s).id) → IsTable (changed t s u t.running t.next)
table-same t s u h inside low same id = table-changed t s u t.running t.next h (keeps-same t s u h inside low same id)

table-left : (t : Table) (s : ℕ) (u : SessionData) → IsTable t → s < length t.sessions → u.id ≤ (session_of t s).id → runs (session_of t s) ≡ true → runs u ≡ false → IsTable (changed t s u (without (session_of t s).id t.running) t.next)
table-left t s u h inside low run rests = table-changed t s u (without (session_of t s).id t.running) t.next h (record {
  inside = inside;
  ascending = ascends-without 1 t.next (session_of t s).id t.running h.ascending;
  mine = (let drawn = h.drawn s in omega arith);
  grows = omega arith;
  here = λ yes. absurd (both_ways (runs u) rests yes);
  others = λ r other yes. without-listed (session_of t s).id (session_of t r).id t.running (h.listed r yes) (λ e. other (h.distinct r s yes run e));
  each = λ x yes. let l = listed-without (session_of t s).id x t.running yes in let at = h.each x l.0 in
      inr (at.0, (λ e. l.1 (sym at.3 ∙ ap (λ i. (session_of t i).id) e)), at.1, at.2, at.3);
  distinct = λ yes. absurd (both_ways (runs u) rests yes);
})

idle-left : (t : Table) (s : ℕ) → IsTable t → is_unreleased (session_of t s).phase ≡ true → runs (session_of t s) ≡ false → without (session_of t s).id t.running ≡ t.running
idle-left t s h is idle = ap (λ i. without i t.running) (no-id (session_of t s) is idle) ∙ without-none 0 t.running (zero-unlisted t h)

pub table-released : (t : Table) (s : ℕ) (u : SessionData) → IsTable t → s < length t.sessions → u.id ≤ (session_of t s).id → is_unreleased (session_of t s).phase ≡ true → runs u ≡ false → IsTable (changed t s u (without (session_of t s).id t.running) t.next)
table-released t s u h inside low is rests = elim (cases_Bool (runs (session_of t s))) [
  | inl run ↦ table-left t s u h inside low run rests
  | inr idle ↦ subst (λ ids. IsTable (changed t s u ids t.next)) (sym (idle-left t s h is idle)) (table-same t s u h inside low (rests ∙ sym idle) (λ yes. absurd (both_ways (runs u) rests yes)))
]

pub room-released : (t : Table) (s : ℕ) (u : SessionData) → HasRoom t → s < length t.sessions → u.id ≤ (session_of t s).id → is_unreleased (session_of t s).phase ≡ true → runs u ≡ false
    → HasRoom (changed t s u (without (session_of t s).id t.running) t.next)
room-released t s u h inside low is rests = elim (cases_Bool (runs (session_of t s))) [
  | inl run ↦ record {
    table = table-left t s u h.table inside low run rests;
    few = (let w = weights-changed t s u inside in let one = weight-runs (session_of t s) run in let none = weight-rests u rests in let f = h.few in
        let less = without-shorter (session_of t s).id t.running (h.table.listed s run) in omega arith);
    sessions = states-kept t s u h;
  }
  | inr idle ↦ subst (λ ids. HasRoom (changed t s u ids t.next)) (sym (idle-left t s h.table is idle)) (room-same t s u h inside low (rests ∙ sym idle) (λ yes. absurd (both_ways (runs u) rests yes)))
]

-- ---- an id is drawn

pub table-drawn : (t : Table) (s : ℕ) (u : SessionData) → IsTable t → s < length t.sessions → runs (session_of t s) ≡ false → u.id ≡ t.next → runs u ≡ true → IsTable (changed t s u (t.running ++ t.next ∷ []) (t.next + 1))
table-drawn t s u h inside rests id run = table-changed t s u (t.running ++ t.next ∷ []) (t.next + 1) h (record {
  inside = inside;
  ascending = ascends-append 1 t.next t.running h.ascending;
  mine = omega arith;
  grows = omega arith;
  here = λ yes. subst (λ x. is_listed (t.running ++ t.next ∷ []) x ≡ true) (sym id) (listed-last t.next t.running);
  others = λ r other yes. listed-append t.next (session_of t r).id t.running (h.listed r yes);
  each = λ x yes. elim (append-listed t.next x t.running yes) [
    | inl old ↦ let at = h.each x old in inr (at.0, (λ e. both_ways (runs (session_of t s)) rests (subst (λ i. runs (session_of t i) ≡ true) e at.2)), at.1, at.2, at.3)
    | inr new ↦ inl (run, id ∙ new)
  ];
  distinct = λ yes r other on e. let w = listed-within 1 t.next t.running (session_of t r).id h.ascending (h.listed r on) in let high = w.1 in omega arith;
})

pub room-drawn : (t : Table) (s : ℕ) (u : SessionData) → HasRoom t → s < length t.sessions → runs (session_of t s) ≡ false → u.id ≡ t.next → runs u ≡ true → HasRoom (changed t s u (t.running ++ t.next ∷ []) (t.next + 1))
room-drawn t s u h inside rests id run = record {
  table = table-drawn t s u h.table inside rests id run;
  few = (let w = weights-changed t s u inside in let none = weight-rests (session_of t s) rests in let one = weight-runs u run in let f = h.few in let more = length-append t.running (t.next ∷ []) in omega arith);
  sessions = states-kept t s u h;
}

pub next-above : (t : Table) → IsTable t → 1 ≤ t.next
next-above t h = ascends-bound 1 t.next t.running h.ascending

-- ---- one more session, and a table of new ones

pub append-opened : (run : ℕ) (states : List SessionData) (r : ℕ) → slice_index_or (states ++ opened run ∷ []) r (opened run) ≡ slice_index_or states r (opened run)
append-opened run [] zero = refl
append-opened run [] (suc r) = refl
append-opened run (x ∷ states) zero = refl
append-opened run (x ∷ states) (suc r) = append-opened run states r

pub table-opened : (t : Table) → IsTable t → IsTable (record { run = t.run; next = t.next; running = t.running; sessions = t.sessions ++ opened t.run ∷ [] })
table-opened t h = record {
  ascending = h.ascending;
  listed = λ r yes. let e = append-opened t.run t.sessions r in subst (λ (x : SessionData). is_listed t.running x.id ≡ true) (sym e) (h.listed r (ap runs (sym e) ∙ yes));
  each = λ id yes. let at = h.each id yes in let e = append-opened t.run t.sessions at.0 in
      (at.0, (let n = length-append t.sessions (opened t.run ∷ []) in let low = at.1 in omega arith), ap runs e ∙ at.2, ap (λ (x : SessionData). x.id) e ∙ at.3);
  drawn = λ r. let e = append-opened t.run t.sessions r in subst (λ (x : SessionData). x.id < t.next) (sym e) (h.drawn r);
  distinct = λ a b one two same. let e = append-opened t.run t.sessions a in let f = append-opened t.run t.sessions b in
      h.distinct a b (ap runs (sym e) ∙ one) (ap runs (sym f) ∙ two) (ap (λ (x : SessionData). x.id) (sym e) ∙ (same ∙ ap (λ (x : SessionData). x.id) f));
}

pub room-opened : (t : Table) → HasRoom t → length t.sessions < SESSIONS_MAX → HasRoom (record { run = t.run; next = t.next; running = t.running; sessions = t.sessions ++ opened t.run ∷ [] })
room-opened t h less = record {
  table = table-opened t h.table;
  few = (let w = sum_by-append weight t.sessions (opened t.run ∷ []) in let f = h.few in omega arith);
  sessions = (let n = length-append t.sessions (opened t.run ∷ []) in omega arith);
}

pub new-state : (run : ℕ) (n r : ℕ) → slice_index_or (replicate n (opened run)) r (opened run) ≡ opened run
new-state run zero r = refl
new-state run (suc n) zero = refl
new-state run (suc n) (suc r) = new-state run n r

pub table-new : (run n : ℕ) → IsTable (record { run = run; next = 1; running = []; sessions = replicate n (opened run) })
table-new run n = record {
  ascending = omega arith;
  listed = λ r yes. let e = ap runs (new-state run n r) in absurd (both_ways (runs (slice_index_or (replicate n (opened run)) r (opened run))) e yes);
  each = λ id yes. absurd (cc);
  drawn = λ r. let e = new-state run n r in subst (λ (x : SessionData). x.id < 1) (sym e) (omega arith);
  distinct = λ a b one. let e = ap runs (new-state run n a) in absurd (both_ways (runs (slice_index_or (replicate n (opened run)) a (opened run))) e one);
}

pub room-new : (run n : ℕ) → n ≤ SESSIONS_MAX → HasRoom (record { run = run; next = 1; running = []; sessions = replicate n (opened run) })
room-new run n le = record {
  table = table-new run n;
  few = omega arith;
  sessions = (let e = length-replicate n (opened run) in omega arith);
}

-- ---- the same, as a call shows it: t is the table when it began, x the session that was read

state-read : (t : Table) (s : ℕ) (x : SessionData) → s < length t.sessions → x ≡ slice_index_or t.sessions s x → x ≡ session_of t s
state-read t s x inside e = get_or_read t.sessions s x inside e (opened t.run)

runs-by : (p q : Phase) (id : ℕ) → is_unreleased p ≡ is_unreleased q → (is_unreleased p && nat_lt 0 id) ≡ (is_unreleased q && nat_lt 0 id)
runs-by p q id e = ap (λ b. b && nat_lt 0 id) e

-- only the phase or what is kept changes
pub call-same : (t now : Table) (s : ℕ) (x u : SessionData) → t ≡ now → HasRoom t → s < length now.sessions → x ≡ slice_index_or t.sessions s x → u.id ≡ x.id → (x.phase ≡ (session_of now s).phase → is_unreleased u.phase ≡ is_unreleased x.phase)
    → HasRoom (changed t s u t.running t.next)
call-same t now s x u e h inside read id phases =
    let within : s < length t.sessions = subst (λ (z : Table). s < length z.sessions) (sym e) inside in
    let state = state-read t s x within read in
    let as_now : x.phase ≡ (session_of now s).phase = ap (λ (z : SessionData). z.phase) state ∙ ap (λ z. (session_of z s).phase) e in
    let run : runs u ≡ runs (session_of t s) = ap (λ i. is_unreleased u.phase && nat_lt 0 i) id ∙ (runs-by u.phase x.phase x.id (phases as_now) ∙ ap runs state) in
    let old : x.id ≡ (session_of t s).id = ap (λ (z : SessionData). z.id) state in
    room-same t s u h within (omega arith) run (λ yes. id ∙ old)

-- who did not run does not run
pub call-rests : (t now : Table) (s : ℕ) (u : SessionData) → t ≡ now → HasRoom t → s < length now.sessions → u.id ≤ (session_of t s).id → is_unreleased (session_of now s).phase ≡ false → runs u ≡ false → HasRoom (changed t s u t.running t.next)
call-rests t now s u e h inside low idle rests =
    let within : s < length t.sessions = subst (λ (z : Table). s < length z.sessions) (sym e) inside in
    let old : is_unreleased (session_of t s).phase ≡ false = ap (λ z. is_unreleased (session_of z s).phase) e ∙ idle in
    let none : runs (session_of t s) ≡ false = ap (λ b. b && nat_lt 0 (session_of t s).id) old in
    room-same t s u h within low (rests ∙ sym none) (λ yes. absurd (both_ways (runs u) rests yes))

pub call-released : (t now : Table) (s : ℕ) (x u : SessionData) (ids : List ℕ) → t ≡ now → HasRoom t → s < length now.sessions → x ≡ slice_index_or t.sessions s x → u.id ≡ x.id → is_unreleased (session_of now s).phase ≡ true → is_unreleased u.phase ≡ false → ids ≡ without x.id t.running
    → HasRoom (changed t s u ids t.next)
call-released t now s x u ids e h inside read id is isnt left =
    let within : s < length t.sessions = subst (λ (z : Table). s < length z.sessions) (sym e) inside in
    let state = state-read t s x within read in
    let old : is_unreleased (session_of t s).phase ≡ true = ap (λ z. is_unreleased (session_of z s).phase) e ∙ is in
    let same : ids ≡ without (session_of t s).id t.running = left ∙ ap (λ (z : SessionData). without z.id t.running) state in
    subst (λ l. HasRoom (changed t s u l t.next)) (sym same) (room-released t s u h within (let same_id : x.id ≡ (session_of t s).id = ap (λ (z : SessionData). z.id) state in omega arith) old (ap (λ b. b && nat_lt 0 u.id) isnt))

pub call-drawn : (t now : Table) (s : ℕ) (x u : SessionData) (ids : List ℕ) → t ≡ now → HasRoom t → s < length now.sessions → x ≡ slice_index_or t.sessions s x → (session_of now s).phase ≡ Running → (session_of now s).id ≡ 0 → u.phase ≡ x.phase → u.id ≡ t.next → ids ≡ t.running ++ t.next ∷ []
    → HasRoom (changed t s u ids (t.next + 1))
call-drawn t now s x u ids e h inside read running none phase id more =
    let within : s < length t.sessions = subst (λ (z : Table). s < length z.sessions) (sym e) inside in
    let state = state-read t s x within read in
    let zero_id : (session_of t s).id ≡ 0 = ap (λ z. (session_of z s).id) e ∙ none in
    let rests : runs (session_of t s) ≡ false = rests-by (is_unreleased (session_of t s).phase) (session_of t s).id zero_id in
    let is : u.phase ≡ Running = phase ∙ (ap (λ (z : SessionData). z.phase) state ∙ (ap (λ z. (session_of z s).phase) e ∙ running)) in
    let above = next-above t h.table in
    let run : runs u ≡ true = ap (λ p. is_unreleased p && nat_lt 0 u.id) is ∙ lt-ltb 0 u.id (omega arith) in
    subst (λ l. HasRoom (changed t s u l (t.next + 1))) (sym more) (room-drawn t s u h within rests id run) where
      rests-by : (b : Bool) (id : ℕ) → id ≡ 0 → (b && nat_lt 0 id) ≡ false
      rests-by true id e = ap (λ i. nat_lt 0 i) e
      rests-by false id e = refl

light : (x : SessionData) → weight x ≤ 1
light x = elim (cases_Bool (runs x)) [ inl is ↦ let e = weight-runs x is in omega arith | inr isnt ↦ let e = weight-rests x isnt in omega arith ]

few-weigh : (xs : List SessionData) → sum_by weight xs ≤ length xs
few-weigh [] = omega arith
few-weigh (x ∷ xs) = let rest = few-weigh xs in let one = light x in let e = sum_by-append weight (x ∷ []) xs in omega arith

-- as many ids run as a snapshot has room for
pub few-run : (t : Table) → HasRoom t → length t.running ≤ SESSIONS_MAX
few-run t h = let few = h.few in let most = few-weigh t.sessions in let sessions = h.sessions in omega arith

-- with room for one more of who has no id
pub id-fits : (t now : Table) (s : ℕ) → t ≡ now → HasRoom t → s < length now.sessions → (session_of now s).id ≡ 0 → length t.running < SESSIONS_MAX
id-fits t now s e h inside none =
    let within : s < length t.sessions = subst (λ (z : Table). s < length z.sessions) (sym e) inside in
    let zero_id : (session_of t s).id ≡ 0 = ap (λ z. (session_of z s).id) e ∙ none in
    let rests : weight (session_of t s) ≡ 0 = weight-rests (session_of t s) (no-run (is_unreleased (session_of t s).phase) (session_of t s).id zero_id) in
    let one = weights-changed t s one_runs within in
    let most = few-weigh (slice_set t.sessions s one_runs) in
    let count = length-set t.sessions s one_runs in
    let few = h.few in
    let sessions = h.sessions in
    omega arith where
      one_runs : SessionData
      one_runs = record (opened t.run) { phase = Running; id = 1 }

      no-run : (b : Bool) (id : ℕ) → id ≡ 0 → (b && nat_lt 0 id) ≡ false
      no-run true id is = ap (λ i. nat_lt 0 i) is
      no-run false id is = refl

-- either way
pub kept-same : {E : Type 0} {A B C : Type 0} (r : Result (Unit {0}) E) → OnOk r A → OnErr r B → (A → C) → (B → C) → C
kept-same (Ok x) a b f g = f a
kept-same (Err x) a b f g = g b

pub by-bool : {A : Type 0} (P : A → Type 0) (b : Bool) (x y new : A) → new ≡ (if b then x else y) → P x → P y → P new
by-bool P true x y new e p q = subst P (sym e) p
by-bool P false x y new e p q = subst P (sym e) q

-- the phase that a call reads
pub phase-read : (t now : Table) (s : ℕ) (x : SessionData) → t ≡ now → s < length now.sessions → x ≡ slice_index_or t.sessions s x → x.phase ≡ (session_of now s).phase
phase-read t now s x e inside read =
    let within : s < length t.sessions = subst (λ (z : Table). s < length z.sessions) (sym e) inside in
    ap (λ (z : SessionData). z.phase) (state-read t s x within read) ∙ ap (λ z. (session_of z s).phase) e

-- the id that a call leaves
pub id-left : (t now : Table) (s : ℕ) (x u : SessionData) → t ≡ now → s < length now.sessions → x ≡ slice_index_or t.sessions s x → u.id ≡ x.id → u.id ≤ (session_of t s).id
id-left t now s x u e inside read id =
    let within : s < length t.sessions = subst (λ (z : Table). s < length z.sessions) (sym e) inside in
    let same : x.id ≡ (session_of t s).id = ap (λ (z : SessionData). z.id) (state-read t s x within read) in omega arith
