use Rattle.std.proofs.Common.{sym}
use Rattle.row_page.specs.Views.{row_seen}
use Rattle.reconcile.proofs.Holding.{next_is}
use Rattle.reconcile.proofs.held.Held.next_update.Goals as goal

pub returns-clause-after : goal.returns-clause-after
returns-clause-after c =
    next_is c.args.self.now.there c.in_ok-there.there c.args.self.now.place c.in_ok-update.update.now (row_seen c.cell_of.result) c.in_ok-there.was (sym c.in_ok-update.ensures) c.cell_of.ensures
