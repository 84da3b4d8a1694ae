use Rattle.std.proofs.Common.{◌∙◌, ◌++◌, ◌∷◌, [], List, ap, sym, subst}
use Rattle.row_page.specs.Rows.{Row}
use Rattle.leaf_rows.specs.Rows.{AreFit, IsAboveLast}
use Rattle.leaf_rows.proofs.Places.{push_fit}
use Rattle.leaf_rows.proofs.rows.Rows.push.Goals as goal

pub invariant_of-self-2 : goal.invariant_of-self-2
invariant_of-self-2 c =
    let r : Row = (c.args.key, c.args.version) in
    let rows = c.self.inside.rows.items in
    subst (λ (l : List Row). AreFit l) (sym (c.push_reserved.ensures.items ∙ ap (λ (l : List Row). l ++ r ∷ []) c.reserve.ensures.items))
    (push_fit rows r c.requires.fits (subst (λ (l : List Row). IsAboveLast r.0 l) (sym c.self.view_is) c.requires.above) c.self.invariant)
