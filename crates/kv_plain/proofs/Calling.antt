-- Where a call goes on from the event that finds its place, and what whole calls answer.
use Rattle.std.proofs.Common.{◌≡◌, ◌∙◌, ap, sym, refl, subst, ℕ, ◌≢◌, Bool, true, false, List, [], ◌∷◌, length, zero, suc, inl, inr}
use Rattle.std.specs.Prelude.{◌⊎◌, Option, Some, None, option_map, not, nat_lt, ◌==◌, slice_index_or, slice_set, MatchBool, if◌then◌else◌}
use Rattle.std.proofs.lemmas.Bool.{cases_Bool}
use Rattle.limits.specs.declared.TheConstants.{KEY_MAX, VALUE_MAX, NUMBER_MAX}
use Rattle.item.specs.declared.Change.{Change}
use Rattle.wt_code.specs.declared.answers.Answer.{Answer}
use Rattle.wt_code.specs.declared.refusals.Refusal.{Refusal}
use Rattle.wt_code.specs.declared.refusals.Refusal.TheVariants as told
use Rattle.wt_code.specs.declared.refusals.Invalid.{Invalid}
use Rattle.wt_code.specs.declared.refusals.Invalid.TheVariants as why
use Rattle.wt_code.specs.declared.refusals.Limit.TheVariants as counted
use Rattle.kv_model.specs.History.{Table, tables, named}
use Rattle.kv_model.specs.Machine.{Machine, Transaction, Phase, Running, Failed, Prepared, Resolving, Leaving, transaction_of, of_some, Event, DrawId, Nothing, after}
use Rattle.kv_model.specs.Refusals.{first_of}
use Rattle.kv_model.specs.Decisions.{Outcome, Done, Refused, Request, FindKey, FindRow, FindToWrite, StepCall, CaptureCall, decision, judged, refused, invalid, in_state, running_session, checked, key_checks, write_checks, table_checks, id_drawn, value_length, is_name, is_there}
use Rattle.kv_model.specs.Told.{Tells}
use Rattle.kv_model.specs.Outside.{Storing}
use Rattle.kv_model.specs.Calls.{Actor, Session, System, Call, Begin, GetKey, PutKey, RemoveKey, SeekKey, NextRow, Reset, Prepare, Commit, Rollback, Create, Set, CkptStart, CkptStep, CkptFinish, Evict, Rts, Close, Finds, AtPlace, Judged, IsTaken, SystemJudged, Answers, SystemAnswers, evict_decision}
use Rattle.kv_plain.specs.declared.outcome.Outcome.{Outcome as PlainOutcome}
use Rattle.kv_plain.specs.declared.outcome.Outcome.TheVariants as plain
use Rattle.kv_plain.specs.declared.calls.Around.{Around}
use Rattle.kv_plain.specs.Outcome.{outcome_in}
use Rattle.kv_plain.specs.Decisions.{storing_in}
use Rattle.kv_plain.specs.Calls.{IsFound, around_in, SystemDecided, IsExact}

-- a property of what is picked
pick : {A : Type 0} (P : Outcome × Event → Type 0) (go : Outcome × Event) (f : A → Outcome × Event) (o : Option A) → (o ≡ None → P go) → ((a : A) → o ≡ Some a → P (f a)) → P (of_some go f o)
pick P go f None none some = none refl
pick P go f (Some a) none some = some a refl

-- and of a state that lets a call go on
in-state : (P : Outcome × Event → Type 0) (p : Phase) (go : Outcome × Event) → ((reason : Invalid) → P (invalid reason)) → P go → P (in_state p go)
in-state P Running go other goes = goes
in-state P Failed go other goes = other _
in-state P (Prepared stamp) go other goes = other _
in-state P Resolving go other goes = other _
in-state P Leaving go other goes = other _

later-none : (b : Bool) (r : Refusal) (later : List (Bool × Refusal)) → first_of ((b, r) ∷ later) ≡ None → first_of later ≡ None
later-none true r later e = absurd (cc)
later-none false r later e = e

last-none : (b : Bool) (r : Refusal) → first_of ((not b, r) ∷ []) ≡ None → b ≡ true
last-none true r e = refl
last-none false r e = absurd (cc)

-- a seat that was taken, and is taken anew
seat-set : (l : List (Option Transaction)) (s : ℕ) (t : Transaction) (o : Option Transaction) → slice_index_or l s None ≡ Some t → slice_index_or (slice_set l s o) s None ≡ o
seat-set [] s t o e = absurd (cc)
seat-set (x ∷ l) zero t o e = refl
seat-set (x ∷ l) (suc s) t o e = seat-set l s t o e

-- the call goes on where its place was found, or is refused without an event
abbrev pub GoesOn : Machine → ℕ → List ℕ → Outcome × Event → Type 0
GoesOn m s name d = ((d.0 ≡ Done) × IsFound (after m d.1) s name) ⊎ ((r : Refusal) × (d ≡ (Refused r, Nothing)))

module _ (m : Machine) (s : ℕ) (name : List ℕ) where
  abbrev Goes : Outcome × Event → Type 0
  Goes d = GoesOn m s name d

  refuses : (r : Refusal) → Goes (refused r)
  refuses r = inr (r, refl)

  checks-go : (checks : List (Bool × Refusal)) → (first_of checks ≡ None → is_there (named name (tables m.history)) ≡ true) → (t : Transaction) → transaction_of m s ≡ Some t → Goes (checked checks (Done, Nothing))
  checks-go checks known t there = pick Goes (Done, Nothing) refused (first_of checks)
      (λ none. inl (refl, record { transaction = ap is_there there; table = known none }))
      (λ r some. refuses r)

  place-goes : (checks : List (Bool × Refusal)) → (first_of checks ≡ None → is_there (named name (tables m.history)) ≡ true)
      → Goes (of_some (running_session m s (λ t. checked checks (Done, Nothing))) (λ fault. refused (told.Panic fault)) m.fault)
  place-goes checks known = pick Goes (running_session m s (λ t. checked checks (Done, Nothing))) (λ fault. refused (told.Panic fault)) m.fault
      (λ up. pick Goes (invalid why.NoTxn) (λ (t : Transaction). in_state t.phase (checked checks (Done, Nothing))) (transaction_of m s)
      (λ none. refuses (told.Invalid why.NoTxn))
      (λ t there. in-state Goes t.phase (checked checks (Done, Nothing)) (λ reason. refuses (told.Invalid reason)) (checks-go checks known t there)))
      (λ fault down. refuses (told.Panic fault))

  row-table : first_of ((not (is_name name), told.Invalid why.BadName) ∷ table_checks m name) ≡ None → is_there (named name (tables m.history)) ≡ true
  row-table e = last-none (is_there (named name (tables m.history))) told.NoTable (later-none (not (is_name name)) (told.Invalid why.BadName) (table_checks m name) e)

  pub row-goes : Goes (decision m s (FindRow name))
  row-goes = place-goes ((not (is_name name), told.Invalid why.BadName) ∷ table_checks m name) row-table

  module _ (key : List ℕ) where
    key-table : first_of (key_checks m name key) ≡ None → is_there (named name (tables m.history)) ≡ true
    key-table e =
        let known = table_checks m name in
        let long : Bool × Refusal = (nat_lt KEY_MAX (length key), told.Invalid (why.KeyLong (length key))) in
        last-none (is_there (named name (tables m.history))) told.NoTable (later-none long.0 long.1 known (later-none (not (is_name name)) (told.Invalid why.BadName) (long ∷ known) e))

    pub key-goes : Goes (decision m s (FindKey name key))
    key-goes = place-goes (key_checks m name key) key-table

    module _ (change : Change) where
      write-table : first_of (write_checks m name key change) ≡ None → is_there (named name (tables m.history)) ≡ true
      write-table e =
          let known = table_checks m name in
          let large : Bool × Refusal = (nat_lt VALUE_MAX (value_length change), told.Invalid (why.ValueLong (value_length change))) in
          let long : Bool × Refusal = (nat_lt KEY_MAX (length key), told.Invalid (why.KeyLong (length key))) in
          last-none (is_there (named name (tables m.history))) told.NoTable (later-none large.0 large.1 known
          (later-none long.0 long.1 (large ∷ known) (later-none (not (is_name name)) (told.Invalid why.BadName) (long ∷ large ∷ known) e)))

      numbered : (t : Transaction) → transaction_of m s ≡ Some t → is_there (transaction_of (after m (DrawId s)) s) ≡ true
      numbered t there =
          let change : Transaction → Transaction = λ t. record t { id = m.next } in
          ap is_there (seat-set m.sessions s t (option_map change (transaction_of m s)) there) ∙ ap (λ o. is_there (option_map change o)) there

      drawn : (t : Transaction) → transaction_of m s ≡ Some t → is_there (named name (tables m.history)) ≡ true → Goes (id_drawn m s t)
      drawn t there known = elim (cases_Bool (t.id == 0)) [
        | inl is ↦ rw is (pick Goes (Done, DrawId s) refused (first_of ((nat_lt NUMBER_MAX m.next, told.Limit counted.Ids) ∷ []))
            (λ none. inl (refl, record { transaction = numbered t there; table = known }))
            (λ r some. refuses r))
        | inr isnt ↦ rw isnt (inl (refl, record { transaction = ap is_there there; table = known }))
      ]

      at-write : (t : Transaction) → transaction_of m s ≡ Some t → Goes (checked (write_checks m name key change) (id_drawn m s t))
      at-write t there = pick Goes (id_drawn m s t) refused (first_of (write_checks m name key change))
          (λ none. drawn t there (write-table none))
          (λ r some. refuses r)

      pub write-goes : Goes (decision m s (FindToWrite name key change))
      write-goes = pick Goes (judged m s (FindToWrite name key change)) (λ fault. refused (told.Panic fault)) m.fault
          (λ up. pick Goes (invalid why.NoTxn) (λ t. in_state t.phase (checked (write_checks m name key change) (id_drawn m s t))) (transaction_of m s)
          (λ none. refuses (told.Invalid why.NoTxn))
          (λ t there. in-state Goes t.phase (checked (write_checks m name key change) (id_drawn m s t)) (λ reason. refuses (told.Invalid reason)) (at-write t there)))
          (λ fault down. refuses (told.Panic fault))

-- ---- where a call goes on

found-done : (m : Machine) (s : ℕ) (name : List ℕ) (d : Outcome × Event) → GoesOn m s name d → d.0 ≡ Done → IsFound (after m d.1) s name
found-done m s name d (inl goes) done = goes.1
found-done m s name d (inr refusal) done = absurd (clash (Refused refusal.0) refl (sym (ap (λ x. x.0) refusal.1) ∙ done)) where
  clash : (o : Outcome) → o ≡ Refused refusal.0 → Refused refusal.0 ≡ Done → ⊥
  clash o is e = cc

-- d is the decision, and the machine after its event is found
pub place-found : (m found : Machine) (s : ℕ) (name : List ℕ) (request : Request) (d : Outcome × Event) → GoesOn m s name (decision m s request) → d ≡ decision m s request
    → found ≡ after m d.1 → d.0 ≡ Done → IsFound found s name
place-found m found s name request d goes is left done =
    subst (λ n. IsFound n s name) (sym (left ∙ ap (λ x. after m x.1) is)) (found-done m s name (decision m s request) goes (sym (ap (λ x. x.0) is) ∙ done))

pub place-done : (m found next : Machine) (s : ℕ) (name : List ℕ) (request : Request) (Looks : Machine → Transaction → Table → Outcome → Event → Type 0) (d : Outcome × Event) (t : Transaction) (table : Table) (outcome : Outcome) (event : Event)
    → d ≡ decision m s request → found ≡ after m d.1 → d.0 ≡ Done → Finds found s name t table → Looks found t table outcome event → next ≡ after found event → AtPlace m s name request Looks outcome next
place-done m found next s name request Looks d t table outcome event is left done finds looks moved =
    let e = (decision m s request).1 in
    let there : found ≡ after m e = left ∙ ap (λ x. after m x.1) is in
    inr (
      e,
      t,
      table,
      event,
      ap (λ o. (o, e)) (sym (ap (λ x. x.0) is) ∙ done),
      subst (λ n. Finds n s name t table) there finds,
      subst (λ n. Looks n t table outcome event) there looks,
      moved ∙ ap (λ n. after n event) there,
    )

not-done : (o : PlainOutcome) → o ≢ plain.Done → outcome_in o ≡ Done → ⊥
not-done plain.Done other e = other refl
not-done (plain.Gives v) other e = cc
not-done (plain.GivesRow key v) other e = cc
not-done plain.Left other e = cc
not-done plain.End other e = cc
not-done plain.Resumes other e = cc
not-done (plain.Refused refusal) other e = cc

pub place-refused : (m : Machine) (s : ℕ) (name : List ℕ) (request : Request) (Looks : Machine → Transaction → Table → Outcome → Event → Type 0) (o : PlainOutcome) (event : Event) → GoesOn m s name (decision m s request)
    → (outcome_in o, event) ≡ decision m s request → o ≢ plain.Done → AtPlace m s name request Looks (outcome_in o) m
place-refused m s name request Looks o event (inl goes) is other = absurd (not-done o other (ap (λ x. x.0) is ∙ goes.0))
place-refused m s name request Looks o event (inr refusal) is other = inl (refusal.0, Nothing, refusal.1, ap (λ x. x.0) (is ∙ refusal.1), refl)

-- ---- Evict, which makes no event

evict-still : (m : Machine) (name key : List ℕ) → (evict_decision m name key).1 ≡ Nothing
evict-still m name key =
    let Still : Outcome × Event → Type 0 = λ d. d.1 ≡ Nothing in
    pick Still (checked (key_checks m name key) (Done, Nothing)) (λ fault. refused (told.Panic fault)) m.fault
    (λ up. pick Still (Done, Nothing) refused (first_of (key_checks m name key)) (λ none. refl) (λ r some. refl))
    (λ fault down. refl)

pub evicts : (m : Machine) (name key : List ℕ) (d : Outcome × Event) → d ≡ evict_decision m name key → evict_decision m name key ≡ (d.0, Nothing)
evicts m name key d is = sym is ∙ ap (λ e. (d.0, e)) (ap (λ x. x.1) is ∙ evict-still m name key)

-- ---- any call

match-both : (b : Bool) {P Q R S : Type 0} → (P → R) → (Q → S) → MatchBool b P Q → MatchBool b R S
match-both true f g h = f h
match-both false f g h = g h

module _ (a : Around) (m : Machine) (answer : Answer (List ℕ)) (next : Machine) where
  -- a leaf is captured, or none is left
  steps : (b : Bool) (outcome : Outcome) → Judged m 0 (if b then CaptureCall (nat_lt 1 a.uncaptured) (storing_in a.storing) else StepCall false) outcome next → Tells outcome answer
      → MatchBool b
      ((storing : Storing) × IsTaken (around_in a) m (λ s. decision m 0 (CaptureCall (nat_lt 1 a.uncaptured) s)) storing × SystemJudged m (CaptureCall (nat_lt 1 a.uncaptured) storing) answer next)
      (SystemJudged m (StepCall b) answer next)
  steps true outcome d tells = (storing_in a.storing, inl refl, (outcome, d, tells))
  steps false outcome d tells = (outcome, d, tells)

  system-answers : (call : Call) (outcome : Outcome) → SystemDecided a m call outcome next → Tells outcome answer → SystemAnswers (around_in a) m call answer next
  system-answers (Create name formats) outcome h tells = inr (h.0, h.1, (outcome, h.2, tells))
  system-answers (Set oldest stable) outcome h tells = (outcome, h, tells)
  system-answers Rts outcome h tells = inr (outcome, h, tells)
  system-answers CkptStart outcome h tells = inr (a.number, refl, (outcome, h, tells))
  system-answers CkptStep outcome h tells = inr (inr (steps (nat_lt 0 a.uncaptured) outcome h tells))
  system-answers CkptFinish outcome h tells = inr (storing_in a.storing, inl refl, (outcome, h, tells))
  system-answers (Evict name key) outcome h tells = inr (inr (outcome, h.0, tells, h.1))
  system-answers Close outcome h tells = inr (a.number, storing_in a.storing, outcome, h.0, refl, inl refl, h.1, tells, h.2)
  system-answers (Begin read) outcome h tells = absurd h
  system-answers (GetKey table key) outcome h tells = absurd h
  system-answers (PutKey table key value demand) outcome h tells = absurd h
  system-answers (RemoveKey table key) outcome h tells = absurd h
  system-answers (SeekKey cursor table key) outcome h tells = absurd h
  system-answers (NextRow cursor table way) outcome h tells = absurd h
  system-answers (Reset cursor) outcome h tells = absurd h
  system-answers (Prepare stamp) outcome h tells = absurd h
  system-answers (Commit commit durable) outcome h tells = absurd h
  system-answers Rollback outcome h tells = absurd h

  -- what the plain program answers is an answer of the model
  pub exact-answers : (actor : Actor) (call : Call) → IsExact a m actor call answer next → Answers (around_in a) m actor call answer next
  exact-answers (Session session) call h = match-both a.in_call (λ refused. refused) (λ d. inl d) h
  exact-answers (System number) call h = match-both a.in_call (λ refused. refused) (λ d. system-answers call d.0 d.1 d.2) h
