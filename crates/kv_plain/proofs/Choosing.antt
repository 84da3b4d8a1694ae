-- What the plain program chooses is an answer that the model allows.
use Rattle.std.proofs.Common.{◌≡◌, ◌≢◌, ◌+◌, ℕ, refl, ap, ◌∙◌, Bool, true, false, ◌&&◌, List, [], ◌∷◌, inl, inr, subst, arith, zero, suc}
use Rattle.std.specs.Prelude.{Option, Some, None, MatchOption, not, ◌==◌, slice_index_or}
use Rattle.std.proofs.lemmas.Bool.{cases_Bool, both_ways, and_parts, and_from, ne_eqb, eq-eqb}
use Rattle.item.specs.declared.Change.{Change}
use Rattle.stamp.specs.declared.Name.{Name}
use Rattle.stamp.specs.declared.Version.{Version}
use Rattle.kv_model.specs.History.{Write, line, value}
use Rattle.kv_model.specs.Machine.{Machine, Transaction, Phase, Running, Failed, Prepared, Resolving, Leaving, name_of}
use Rattle.kv_model.specs.Reads.{own_write, is_own, prepared_in, may_follow, names_newest, Meets, IsEnding, OthersEnding, ReadOthers, ReadAs, ReadAnswer, MayWriteAs, MustNotWriteAs}
use Rattle.kv_model.specs.Closing.{is_ending}
use Rattle.kv_model.proofs.Finishing.{name_eq-refl}
use Rattle.kv_plain.specs.Choices.{first_id, is_holding, is_met, met, holder, value_unless, own_or, read_of_others, read_of, unseen, held_or, unless_own, refusal_of_others, refusal_of, MayWriteUnless}

-- the first that passes is there, and passes
record Passes (test : ℕ → Transaction → Bool) (at : ℕ) (sessions : List (Option Transaction)) (id : ℕ) : Type 0 where
  session : ℕ
  transaction : Transaction
  there : slice_index_or sessions session None ≡ Some transaction
  passes : test (at + session) transaction ≡ true
  named : id ≡ transaction.id

later-passes : (test : ℕ → Transaction → Bool) (at : ℕ) (o : Option Transaction) (later : List (Option Transaction)) (id : ℕ) → Passes test (at + 1) later id → Passes test at (o ∷ later) id
later-passes test at o later id p = record {
  session = suc p.session;
  transaction = p.transaction;
  there = p.there;
  passes = subst (λ s. test s p.transaction ≡ true) (let e : at + 1 + p.session ≡ at + suc p.session = omega arith in e) p.passes;
  named = p.named;
}

first-passes : (test : ℕ → Transaction → Bool) (at : ℕ) (sessions : List (Option Transaction)) (id : ℕ) → first_id test at sessions ≡ Some id → Passes test at sessions id
first-passes test at [] id e = absurd (cc)
first-passes test at (None ∷ later) id e = later-passes test at None later id (first-passes test (at + 1) later id e)
first-passes test at (Some t ∷ later) id e = elim (cases_Bool (test at t)) [
  | inl is ↦ let f = rw is at e in record {
    session = 0;
    transaction = t;
    there = refl;
    passes = subst (λ s. test s t ≡ true) (let same : at ≡ at + 0 = omega arith in same) is;
    named = cc;
  }
  | inr isnt ↦ later-passes test at (Some t) later id (first-passes test (at + 1) later id (rw isnt at e))
]

none-passes : (test : ℕ → Transaction → Bool) (at : ℕ) (sessions : List (Option Transaction)) → first_id test at sessions ≡ None → (s : ℕ) (t : Transaction) → slice_index_or sessions s None ≡ Some t → test (at + s) t ≡ false
none-passes test at [] e s t there = absurd (cc)
none-passes test at (None ∷ later) e zero t there = absurd (cc)
none-passes test at (None ∷ later) e (suc s) t there = subst (λ i. test i t ≡ false) (let same : at + 1 + s ≡ at + suc s = omega arith in same) (none-passes test (at + 1) later e s t there)
none-passes test at (Some u ∷ later) e zero t there = elim (cases_Bool (test at u)) [
  | inl is ↦ let f = rw is at e in absurd (cc)
  | inr isnt ↦ let same : u ≡ t = cc in subst (λ z. test (at + 0) z ≡ false) same (subst (λ i. test i u ≡ false) (let e : at ≡ at + 0 = omega arith in e) isnt)
]
none-passes test at (Some u ∷ later) e (suc s) t there = elim (cases_Bool (test at u)) [
  | inl is ↦ let f = rw is at e in absurd (cc)
  | inr isnt ↦ subst (λ i. test i t ≡ false) (let same : at + 1 + s ≡ at + suc s = omega arith in same) (none-passes test (at + 1) later (rw isnt at e) s t there)
]

-- of all sessions
record Finds (test : ℕ → Transaction → Bool) (sessions : List (Option Transaction)) (id : ℕ) : Type 0 where
  session : ℕ
  transaction : Transaction
  there : slice_index_or sessions session None ≡ Some transaction
  passes : test session transaction ≡ true
  named : id ≡ transaction.id

first-found : (test : ℕ → Transaction → Bool) (sessions : List (Option Transaction)) (id : ℕ) → first_id test 0 sessions ≡ Some id → Finds test sessions id
first-found test sessions id e = let p = first-passes test 0 sessions id e in record {
  session = p.session;
  transaction = p.transaction;
  there = p.there;
  passes = subst (λ s. test s p.transaction ≡ true) (let same : 0 + p.session ≡ p.session = omega arith in same) p.passes;
  named = p.named;
}

none-found : (test : ℕ → Transaction → Bool) (sessions : List (Option Transaction)) → first_id test 0 sessions ≡ None → (s : ℕ) (t : Transaction) → slice_index_or sessions s None ≡ Some t → test s t ≡ false
none-found test sessions e s t there = subst (λ i. test i t ≡ false) (let same : 0 + s ≡ s = omega arith in same) (none-passes test 0 sessions e s t there)

ending : (p : Phase) → is_ending p ≡ true → IsEnding p
ending Running e = absurd (cc)
ending Failed e = absurd (cc)
ending (Prepared stamp) e = absurd (cc)
ending Resolving e = tt
ending Leaving e = tt

-- who is not ending is not
alive : (p : Phase) → is_ending p ≡ false → IsEnding p → ⊥
alive Running e is = is
alive Failed e is = is
alive (Prepared stamp) e is = is
alive Resolving e is = cc
alive Leaving e is = cc

not-true : (b : Bool) → not b ≡ true → b ≡ false
not-true true e = absurd (cc)
not-true false e = refl

-- who holds the key is another, wrote it, and is not ending
record Holds (m : Machine) (session table : ℕ) (key : List ℕ) (other : ℕ) (x : Transaction) : Type 0 where
  another : other ≢ session
  wrote : is_own (own_write x table key) ≡ true
  undecided : is_ending x.phase ≡ false

holds : (m : Machine) (session table : ℕ) (key : List ℕ) (other : ℕ) (x : Transaction) → is_holding session table key other x ≡ true → Holds m session table key other x
holds m session table key other x e =
    let p = and_parts (not (other == session)) (is_own (own_write x table key) && not (is_ending x.phase)) e in
    let q = and_parts (is_own (own_write x table key)) (not (is_ending x.phase)) p.1 in
    record {
      another = λ same. both_ways (other == session) (not-true (other == session) p.0) (eq-eqb other session same);
      wrote = q.0;
      undecided = not-true (is_ending x.phase) q.1;
    }

-- one that does not hold it, and is another's that wrote it, is ending
ends-unless : (session table : ℕ) (key : List ℕ) (other : ℕ) (x : Transaction) → is_holding session table key other x ≡ false → other ≢ session → is_own (own_write x table key) ≡ true → IsEnding x.phase
ends-unless session table key other x isnt another wrote = elim (cases_Bool (is_ending x.phase)) [
  | inl is ↦ ending x.phase is
  | inr not ↦ absurd (both_ways (is_holding session table key other x) isnt (rw (ne_eqb other session another, wrote, not) refl))
]

others-end : (m : Machine) (session table : ℕ) (key : List ℕ) → holder m session table key ≡ None → OthersEnding m session table key
others-end m session table key e other x another wrote =
    ends-unless session table key other x (none-found (is_holding session table key) m.sessions e other x wrote.0) another wrote.1

met-ends : (m : Machine) (session : ℕ) (t : Transaction) (table : ℕ) (key : List ℕ) → met m session t table key ≡ None → (other : ℕ) (x : Transaction) → Meets m session t table key other x → IsEnding x.phase
met-ends m session t table key e other x meets = elim (cases_Bool (is_holding session table key other x)) [
  | inl is ↦ absurd (both_ways (is_met m session t table key other x) (none-found (is_met m session t table key) m.sessions e other x meets.writer.0) (and_from (is_holding session table key other x) (prepared_in m.history t.start t.read (name_of m x)) is meets.before))
  | inr isnt ↦ ends-unless session table key other x isnt meets.another meets.writer.1
]

pub reads-others : (m : Machine) (session : ℕ) (t : Transaction) (table : ℕ) (key : List ℕ) (o : Option ℕ) → met m session t table key ≡ o → ReadOthers m session t table key (value_unless o (value m.history t.start t.read table key))
reads-others m session t table key None e = (refl, met-ends m session t table key e)
reads-others m session t table key (Some id) e =
    let p = first-found (is_met m session t table key) m.sessions id e in
    let q = and_parts (is_holding session table key p.session p.transaction) (prepared_in m.history t.start t.read (name_of m p.transaction)) p.passes in
    let h = holds m session table key p.session p.transaction q.0 in
    (p.session, p.transaction, record { another = h.another; writer = (p.there, h.wrote); before = q.1 }, (λ e. absurd (alive p.transaction.phase h.undecided e)), p.named)

pub read-answers : (m : Machine) (session : ℕ) (t : Transaction) (table : ℕ) (key : List ℕ) → ReadAnswer m session t table key (read_of m session t table key)
read-answers m session t table key = by (own_write t table key) where
  by : (o : Option Write) → ReadAs o m session t table key (own_or o (read_of_others m session t table key))
  by (Some w) = refl
  by None = reads-others m session t table key (met m session t table key) refl

-- what a refusal, or none, says of a write
abbrev Told : Option Write → Machine → ℕ → Transaction → ℕ → List ℕ → Option Name → Type 0
Told o m session t table key name = MatchOption name (MayWriteAs o m session t table key) (λ name. MustNotWriteAs o m session t table key name)

accepts : (m : Machine) (session : ℕ) (t : Transaction) (table : ℕ) (key : List ℕ) → OthersEnding m session table key → (l : List (Version Change)) → line m.history table key ≡ l → Told None m session t table key (unseen m t l)
accepts m session t table key ends [] e = record { others = ends; newest = ap (may_follow m t) e }
accepts m session t table key ends (v ∷ older) e = elim (cases_Bool (may_follow m t (v ∷ older))) [
  | inl is ↦ rw is (record { others = ends; newest = ap (may_follow m t) e ∙ is })
  | inr isnt ↦ rw isnt (inr (ends, ap (names_newest v.window.name) e ∙ name_eq-refl v.window.name, ap (may_follow m t) e ∙ isnt))
]

pub write-answers : (m : Machine) (session : ℕ) (t : Transaction) (table : ℕ) (key : List ℕ) → MayWriteUnless m session t table key (refusal_of m session t table key)
write-answers m session t table key = by (own_write t table key) where
  held : (h : Option ℕ) → holder m session table key ≡ h → Told None m session t table key (held_or m h (unseen m t (line m.history table key)))
  held None e = accepts m session t table key (others-end m session table key e) (line m.history table key) refl
  held (Some id) e =
      let p = first-found (is_holding session table key) m.sessions id e in
      let h = holds m session table key p.session p.transaction p.passes in
      inl (p.session, p.transaction, h.another, (p.there, h.wrote), (λ e. absurd (alive p.transaction.phase h.undecided e)), ap (λ i. record { run = m.run; id = i }) p.named)

  by : (o : Option Write) → Told o m session t table key (unless_own o (refusal_of_others m session t table key))
  by (Some w) = tt
  by None = held (holder m session table key) refl
