-- The tables the other way round, as a machine has them: newest first.
use Rattle.std.proofs.Common.{◌≡◌, ℕ, ◌+◌, ◌<◌, ◌≤◌, true, false, List, [], ◌∷◌, ◌++◌, reverse, Option, Some, None, refl, sym, ap, subst, ◌∙◌, inl, inr, arith}
use Rattle.std.specs.Prelude.{bytes_eq, not}
use Rattle.std.specs.List.{AllByRecursion}
use Rattle.std.proofs.lemmas.Bool.{cases_Bool}
use Rattle.std.proofs.lemmas.List.{length-reverse, reverse-append}
use Rattle.kv_model.specs.Holds.{Member}
use Rattle.kv_model.specs.History.{Table, Entry, Create, Commit, Prepare, Resolve, Undo, Rts, named, tables, created}
use Rattle.wt_code.specs.declared.refusals.Refusal.TheVariants as told
use Rattle.wt_code.specs.declared.refusals.Invalid.TheVariants as why
use Rattle.kv_model.specs.Machine.{Event}
use Rattle.kv_model.specs.Decisions.{Outcome, checked, create_decision, is_name}
use Rattle.catalog.specs.Known.{AreDistinct, NumbersAscend}
use Rattle.catalog.specs.Creates.{decided}
use Rattle.catalog.specs.Laws.{NamesTurn, PlacesAreNamed, CreatesAreJudged, CreatesSuit}
use Rattle.catalog.proofs.NameOrder.{same_name}
use Rattle.catalog.proofs.Distinct.{place_named}

pub turn_one : (t : Table) (later : List Table) → reverse (t ∷ later) ≡ reverse later ++ t ∷ []
turn_one t later = reverse-append (t ∷ []) later

push_differs : (name : List ℕ) (known : List Table) (t : Table) → bytes_eq t.name name ≡ false → named name (known ++ t ∷ []) ≡ named name known
push_differs name [] t differs = rw differs refl
push_differs name (u ∷ later) t differs = elim (cases_Bool (bytes_eq u.name name)) [
  | inl same ↦ rw same refl
  | inr other ↦ rw other (push_differs name later t differs)
]

push_same : (name : List ℕ) (known : List Table) (t : Table) → bytes_eq t.name name ≡ true → named name known ≡ None → named name (known ++ t ∷ []) ≡ Some t
push_same name [] t same none = rw same refl
push_same name (u ∷ later) t same none = elim (cases_Bool (bytes_eq u.name name)) [
  | inl first ↦ let some : named name (u ∷ later) ≡ Some u = rw first refl in absurd cc
  | inr other ↦ rw other (push_same name later t same (rw other at none))
]

pub turn_named : NamesTurn
turn_named [] distinct name = refl
turn_named (t ∷ later) distinct name = elim (cases_Bool (bytes_eq t.name name)) [
  | inl same ↦
      let none : named name later ≡ None = subst (λ (n : List ℕ). named n later ≡ None) (same_name t.name name same) distinct.0 in
      let some : named name (t ∷ later) ≡ Some t = rw same refl in
      ap (named name) (turn_one t later) ∙ push_same name (reverse later) t same (turn_named later distinct.1 name ∙ none) ∙ sym some
  | inr other ↦
      let rest : named name (t ∷ later) ≡ named name later = rw other refl in
      ap (named name) (turn_one t later) ∙ push_differs name (reverse later) t other ∙ turn_named later distinct.1 name ∙ sym rest
]

pub places_named : PlacesAreNamed
places_named = place_named

decision_turns : (known : List Table) (t : Table) (old : Option Table) → create_decision (reverse known) t old ≡ create_decision known t old
decision_turns known t None = rw length-reverse refl
decision_turns known t (Some old) = refl

decided_turns : (known : List Table) (t : Table) → AreDistinct known → decided (reverse known) t ≡ decided known t
decided_turns known t distinct =
    ap (λ (old : Option Table). checked ((not (is_name t.name), told.Invalid why.BadName) ∷ []) (create_decision (reverse known) t old)) (turn_named known distinct t.name) ∙
    ap (λ (go : Outcome × Event). checked ((not (is_name t.name), told.Invalid why.BadName) ∷ []) go) (decision_turns known t (named t.name known))

pub creates_judged : CreatesAreJudged
creates_judged m session known t distinct is = subst (λ (l : List Table). decided l t ≡ decided known t) is (decided_turns known t distinct)

-- ---- numbers

created_are : (history : List Entry) → created history ≡ tables history
created_are [] = refl
created_are (Create t ∷ older) = ap (λ (l : List Table). t ∷ l) (created_are older)
created_are (Commit name writes ∷ older) = created_are older
created_are (Prepare name stamp ∷ older) = created_are older
created_are (Resolve name writes ∷ older) = created_are older
created_are (Undo name ∷ older) = created_are older
created_are (Rts stable ∷ older) = created_are older

all_append : (P : Table → Type 0) (xs ys : List Table) → AllByRecursion P xs → AllByRecursion P ys → AllByRecursion P (xs ++ ys)
all_append P [] ys all more = more
all_append P (x ∷ xs) ys all more = (all.0, all_append P xs ys all.1 more)

all_turned : (P : Table → Type 0) (known : List Table) → AllByRecursion P known → AllByRecursion P (reverse known)
all_turned P [] all = tt
all_turned P (t ∷ later) all = subst (AllByRecursion P) (sym (turn_one t later)) (all_append P (reverse later) (t ∷ []) (all_turned P later all.1) (all.0, tt))

pub all_member : (P : Table → Type 0) (known : List Table) (t : Table) → AllByRecursion P known → Member t known → P t
all_member P [] t all member = absurd member
all_member P (u ∷ later) t all (inl is) = subst P (sym is) all.0
all_member P (u ∷ later) t all (inr member) = all_member P later t all.1 member

numbers_below : (low : ℕ) (known : List Table) (next : ℕ) → NumbersAscend low known next → (low ≤ next) × AllByRecursion (λ (t : Table). t.number < next) known
numbers_below low [] next ascend = (ascend, tt)
numbers_below low (t ∷ later) next ascend =
    let rest = numbers_below (t.number + 1) later next ascend.1 in
    (omega (arith, ascend.0, rest.0), (omega (arith, rest.0), rest.1))

pub creates_are_suited : CreatesSuit
creates_are_suited m known name formats are is =
    let below = numbers_below 1 known.tables known.next are.numbers in (
      refl,
      refl,
      (
        (λ t member.
            all_member (λ (u : Table). u.number < known.next) (reverse known.tables) t (all_turned (λ (u : Table). u.number < known.next) known.tables below.1)
            (subst (Member t) (created_are m.history ∙ sym is) member)),
        below.0,
      ),
    )
