use Rattle.std.proofs.Common.{rules}
use Rattle.std.proofs.lemmas.List.Sorted.{IsNonDecreasingBy-from_sort_by_key}
use Rattle.call_steps.specs.declared.written.WrittenKey.{WrittenKey}
use Rattle.call_steps.proofs.starts.sort.Goals as goal

pub returns : goal.returns
returns c = record {
  same = c.sort_unstable_by_key.ensures.permutation;
  by_leaf = IsNonDecreasingBy-from_sort_by_key (λ (k : WrittenKey). k.frame) _ c.sort_unstable_by_key.ensures.sorted (λ a r q k. search rules);
}
