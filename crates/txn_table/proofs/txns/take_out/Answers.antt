-- The search of an ascending list finds the id, or it is not there.
use Rattle.std.proofs.Common.{◌≡◌, ◌<◌, ◌≤◌, ℕ, ap, sym, ◌∙◌, List, length, get_or, inl, inr, subst, arith}
use Rattle.std.specs.Prelude.{Result, Ok, Err, MatchResult, remove}
use Rattle.std.proofs.lemmas.Bool.{cases_lt}
use Rattle.std.proofs.lemmas.List.Sorted.{searched}
use Rattle.snapshot.specs.Sight.{Ascends}
use Rattle.snapshot.proofs.Listed.{ascends-order, unlisted}
use Rattle.txn_table.specs.Tabled.{without}
use Rattle.txn_table.proofs.IdLemmas.{remove-without, without-none}
use Rattle.txn_table.proofs.txns.take_out.Goals as goal

taken : (ids : List ℕ) (id high : ℕ) (r : Result ℕ ℕ) → Ascends 1 ids high
    → MatchResult r (λ i. (i < length ids) × (get_or ids i 0 ≡ id)) (λ i. (i ≤ length ids) × ((k : ℕ) → k < i → get_or ids k 0 < id) × ((k : ℕ) → i ≤ k → k < length ids → id < get_or ids k 0))
    → MatchResult r (λ i. remove ids i ≡ without id ids) (λ i. ids ≡ without id ids)
taken ids id high (Ok i) a h = remove-without 1 high id ids i a h.0 h.1
taken ids id high (Err i) a h = sym (without-none id ids (unlisted ids id (λ k lt e. elim (cases_lt k i) [ inl below ↦ let less = h.1 k below in omega arith | inr above ↦ let more = h.2 k above lt in omega arith ])))

pub returns-in-Ok-clause-items : goal.returns-in-Ok-clause-items
returns-in-Ok-clause-items c =
    let up : Ascends 1 c.deref.result.now c.requires.0 = rw c.deref.ensures.value c.requires.1 in
    let m = taken c.deref.result.now c.args.id c.requires.0 c.binary_search.result up (searched c.deref.result.now c.args.id c.binary_search.result c.binary_search.ensures.position (ascends-order 1 c.requires.0 c.deref.result.now up)) in
    let found : remove c.deref.result.now c.in-Ok.place ≡ without c.args.id c.deref.result.now = subst (λ r. MatchResult r (λ i. remove c.deref.result.now i ≡ without c.args.id c.deref.result.now) (λ i. c.deref.result.now ≡ without c.args.id c.deref.result.now)) c.in-Ok.is m in
    c.remove_at.ensures.items ∙ (ap (λ l. remove l c.in-Ok.place) (sym c.deref.ensures.value) ∙ (found ∙ ap (without c.args.id) c.deref.ensures.value))

pub returns-in_default-clause-items : goal.returns-in_default-clause-items
returns-in_default-clause-items c =
    let up : Ascends 1 c.deref.result.now c.requires.0 = rw c.deref.ensures.value c.requires.1 in
    let m = taken c.deref.result.now c.args.id c.requires.0 c.binary_search.result up (searched c.deref.result.now c.args.id c.binary_search.result c.binary_search.ensures.position (ascends-order 1 c.requires.0 c.deref.result.now up)) in
    let absent : c.deref.result.now ≡ without c.args.id c.deref.result.now = subst (λ r. MatchResult r (λ i. remove c.deref.result.now i ≡ without c.args.id c.deref.result.now) (λ i. c.deref.result.now ≡ without c.args.id c.deref.result.now)) c.in_default.is m in
    sym c.deref.ensures.value ∙ (absent ∙ ap (without c.args.id) c.deref.ensures.value)
