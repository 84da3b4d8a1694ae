use Rattle.std.proofs.Common.{List, ℕ, sym, subst}
use Rattle.std.specs.List.Sorted.{IsPermutation, IsStrictlyIncreasing}
use Rattle.checkpoint_record.proofs.Numbers.{numbers, once_true, once_is}
use Rattle.checkpoint_record.proofs.rules.numbers_once.Goals as goal

pub returns : goal.returns
returns c =
    let tables = c.args.tables.now in
    let sorted : List ℕ = c.sort_unstable.new.self.items in
    let moved : IsPermutation (numbers tables) sorted = subst (λ (l : List ℕ). IsPermutation l sorted) c.in_ok-numbers.ensures c.sort_unstable.ensures.permutation in (
      λ t. once_true tables sorted moved (subst (λ (l : List ℕ). IsStrictlyIncreasing l) c.deref.ensures.value (c.ascend.ensures.0 t)),
      λ once. c.ascend.ensures.1 (subst (λ (l : List ℕ). IsStrictlyIncreasing l) (sym c.deref.ensures.value) (once_is tables sorted moved c.sort_unstable.ensures.sorted once)),
    )
