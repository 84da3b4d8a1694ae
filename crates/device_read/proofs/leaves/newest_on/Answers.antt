use Rattle.std.proofs.Common.{◌≡◌, ◌∙◌, ◌+◌, ℕ, List, Option, ap, ap₂, arith, drop, suc}
use Rattle.std.proofs.lemmas.List.{take_rest}
use Rattle.stored.specs.TableTree.{Entry, first_key}
use Rattle.device_read.specs.Newest.{of_leaf}
use Rattle.device_read.proofs.leaves.newest_on.Goals as goal

pub returns : goal.returns
returns c =
    let es : List Entry = c.args.entries.now in
    let one : c.args.i + 1 ≡ suc c.args.i = omega arith in
    c.of_leaf.ensures
    ∙ ap₂ (λ (l : List ℕ) (k : Option (List ℕ)). of_leaf c.args.table l k c.args.newest.now) c.low_at.ensures (c.first_key_of-next.ensures ∙ ap first_key (take_rest es (c.args.i + 1)) ∙ ap (λ (n : ℕ). first_key (drop n es)) one)
