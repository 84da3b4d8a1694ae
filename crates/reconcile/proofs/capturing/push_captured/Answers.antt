use Rattle.std.proofs.Common.{[], sym, subst}
use Rattle.row_page.specs.Rows.{Row, RowFits, key_most}
use Rattle.reconcile.proofs.Picking.{captured_fits}
use Rattle.reconcile.proofs.capturing.push_captured.Goals as goal

pub push-requires : goal.push-requires
push-requires c =
    subst (λ (r : Row). RowFits [] key_most r) (sym c.cell_of.ensures) (captured_fits c.args.snapshot.now.sight c.args.there.now.key c.args.there.now.chain c.in-Some.version.now (sym c.in-Some.ensures) c.requires.fit)
