-- A binary search of an ascending list finds what is listed.
use Rattle.std.proofs.Common.{◌≡◌, ◌<◌, ◌≤◌, ℕ, sym, ◌∙◌, List, length, inl, inr, get_or, arith}
use Rattle.std.specs.Prelude.{Result, Ok, Err, is_ok, MatchResult}
use Rattle.std.proofs.lemmas.Bool.{cases_lt}
use Rattle.std.proofs.lemmas.List.Sorted.{searched}
use Rattle.snapshot.specs.Sight.{is_listed}
use Rattle.snapshot.proofs.Listed.{ascends-order, listed-at, unlisted}
use Rattle.snapshot.proofs.sight.is_listed.Goals as goal

found : (ids : List ℕ) (x : ℕ) (r : Result ℕ ℕ)
    → MatchResult r (λ i. (i < length ids) × (get_or ids i 0 ≡ x)) (λ i. (i ≤ length ids) × ((k : ℕ) → k < i → get_or ids k 0 < x) × ((k : ℕ) → i ≤ k → k < length ids → x < get_or ids k 0))
    → is_ok r ≡ is_listed ids x
found ids x (Ok i) h = sym (listed-at ids i x h.0 h.1)
found ids x (Err i) h = sym (unlisted ids x (λ k lt e. elim (cases_lt k i) [ inl below ↦ let less = h.1 k below in omega arith | inr above ↦ let more = h.2 k above lt in omega arith ]))

pub returns : goal.returns
returns c = c.is_ok.ensures.value ∙ found c.args.list.now c.args.id c.binary_search.result
    (searched c.args.list.now c.args.id c.binary_search.result c.binary_search.ensures.position (ascends-order c.requires.0 c.requires.1 c.args.list.now c.requires.2))
