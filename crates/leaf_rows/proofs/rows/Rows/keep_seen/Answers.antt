use Rattle.std.proofs.Common.{sym, subst, ap, List, ◌∙◌}
use Rattle.row_page.specs.Rows.{Row}
use Rattle.leaf_rows.specs.Rows.{AreFit}
use Rattle.leaf_rows.specs.Contents.{is_seen_row, seen_rows}
use Rattle.leaf_rows.proofs.Filters.{filter_fit}
use Rattle.leaf_rows.proofs.rows.Rows.keep_seen.Goals as goal

pub invariant_of-self : goal.invariant_of-self
invariant_of-self c = subst (λ (l : List Row). AreFit l) (sym c.keep_seen.ensures) (filter_fit (is_seen_row c.args.marks c.args.running.now) c.self.inside.rows.items c.self.invariant)

pub returns : goal.returns
returns c = c.keep_seen.ensures ∙ ap (λ (l : List Row). seen_rows c.args.marks c.args.running.now l) c.self.view_is
