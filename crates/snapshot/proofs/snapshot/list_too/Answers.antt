-- A search of an ascending list finds the id, or the place where it belongs.
use Rattle.std.proofs.Common.{◌≡◌, ◌<◌, ◌≤◌, ℕ, ap, sym, ◌∙◌, List, length, get_or, subst}
use Rattle.std.specs.Prelude.{Result, Ok, Err, MatchResult, insert, is_ok, true, if◌then◌else◌}
use Rattle.std.proofs.lemmas.List.Sorted.{searched}
use Rattle.snapshot.specs.Sight.{Ascends, with_id}
use Rattle.snapshot.proofs.Listed.{ascends-order, with-listed, with-inserted}
use Rattle.snapshot.proofs.snapshot.list_too.Goals as goal

placed : (ids : List ℕ) (id high : ℕ) (r : Result ℕ ℕ) → Ascends 0 ids high
    → MatchResult r (λ i. (i < length ids) × (get_or ids i 0 ≡ id)) (λ i. (i ≤ length ids) × ((k : ℕ) → k < i → get_or ids k 0 < id) × ((k : ℕ) → i ≤ k → k < length ids → id < get_or ids k 0))
    → MatchResult r (λ i. ids ≡ with_id ids id) (λ i. insert ids i id ≡ with_id ids id)
placed ids id high (Ok i) a h = sym (with-listed 0 high ids i id a h.0 h.1)
placed ids id high (Err i) a h = with-inserted ids i id h.0 h.1 h.2

pub returns-in-Err-clause-items : goal.returns-in-Err-clause-items
returns-in-Err-clause-items c =
    let up : Ascends 0 c.deref.result.now c.requires.ascending.0 = rw c.deref.ensures.value c.requires.ascending.1 in
    let m = placed c.deref.result.now c.args.id c.requires.ascending.0 c.binary_search.result up (searched c.deref.result.now c.args.id c.binary_search.result c.binary_search.ensures.position (ascends-order 0 c.requires.ascending.0 c.deref.result.now up)) in
    let there : insert c.deref.result.now c.in-Err.place c.args.id ≡ with_id c.deref.result.now c.args.id = subst (λ r. MatchResult r (λ i. c.deref.result.now ≡ with_id c.deref.result.now c.args.id) (λ i. insert c.deref.result.now i c.args.id ≡ with_id c.deref.result.now c.args.id)) c.in-Err.is m in
    let done : is_ok c.insert-inserted.result ≡ true = c.insert-inserted.ensures.succeeds c.requires.room in
    c.insert-inserted.ensures.items ∙ (ap (λ b. if b then insert c.args.ids.now.items c.in-Err.place c.args.id else c.args.ids.now.items) done
    ∙ (ap (λ l. insert l c.in-Err.place c.args.id) (sym c.deref.ensures.value) ∙ (there ∙ ap (λ l. with_id l c.args.id) c.deref.ensures.value)))

pub returns-in_default-clause-items : goal.returns-in_default-clause-items
returns-in_default-clause-items c =
    let up : Ascends 0 c.deref.result.now c.requires.ascending.0 = rw c.deref.ensures.value c.requires.ascending.1 in
    let m = placed c.deref.result.now c.args.id c.requires.ascending.0 c.binary_search.result up (searched c.deref.result.now c.args.id c.binary_search.result c.binary_search.ensures.position (ascends-order 0 c.requires.ascending.0 c.deref.result.now up)) in
    let there : c.deref.result.now ≡ with_id c.deref.result.now c.args.id = subst (λ r. MatchResult r (λ i. c.deref.result.now ≡ with_id c.deref.result.now c.args.id) (λ i. insert c.deref.result.now i c.args.id ≡ with_id c.deref.result.now c.args.id)) c.in_default.is m in
    sym c.deref.ensures.value ∙ (there ∙ ap (λ l. with_id l c.args.id) c.deref.ensures.value)
