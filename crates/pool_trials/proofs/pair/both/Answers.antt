use Rattle.std.proofs.Common.{◌≡◌, [], ◌∷◌, ◌++◌, sym, ap, ◌∙◌, subst}
use Rattle.latch_table.specs.Closing.{AreAll}
use Rattle.pool_trials.proofs.Pairs.{two_all}
use Rattle.pool_trials.proofs.pair.both.Goals as goal

pub returns : goal.returns
returns g c =
    let e : c.push_reserved-2.new.self.items ≡ c.args.first ∷ c.args.second ∷ [] = c.push_reserved-2.ensures.items
    ∙ ap (λ l. l ++ c.args.second ∷ []) (c.push_reserved.ensures.items ∙ ap (λ l. l ++ c.args.first ∷ []) c.in_ok-seats.ensures.items) in
    subst (λ l. AreAll c.args.table.now l) (sym e) (two_all c.args.table.now c.args.first c.args.second c.requires.two c.requires.first c.requires.second)
