use Rattle.std.proofs.Common.{◌≡◌, ◌+◌, [], ◌++◌, length, Option, sym, subst, arith}
use Rattle.item.specs.declared.Change.{Change}
use Rattle.stamp.specs.declared.Version.{Version}
use Rattle.row_page.specs.Rows.{RowFits, cells, key_most}
use Rattle.reconcile.specs.Cells.{cell_version}
use Rattle.reconcile.specs.Gathered.{row_of}
use Rattle.reconcile.proofs.Measuring.{row_size}
use Rattle.reconcile.proofs.Picking.{captured_fits}
use Rattle.reconcile.proofs.fits.row_len.Goals as goal

fits : (c : goal.After-len) → RowFits [] key_most (c.args.there.now.key, cell_version c.in-Some.version.now)
fits c = captured_fits c.args.snapshot.now.sight c.args.there.now.key c.args.there.now.chain c.in-Some.version.now (sym c.in-Some.ensures) c.requires.fit

pub overflow_add-result : goal.overflow_add-result
overflow_add-result c = omega (arith, (fits c).key, c.len.ensures)

pub overflow_add-result-in-Some : goal.overflow_add-result-in-Some
overflow_add-result-in-Some c = omega (arith, (fits c.before).key, (fits c.before).value, c.before.len.ensures, c.value_len.ensures)

pub returns-in-Some-clause-is : goal.returns-in-Some-clause-is
returns-in-Some-clause-is c = subst (λ (o : Option (Version Change)). 39 + c.len.result + c.value_len.result ≡ length (cells (row_of c.args.there.now.key o ++ []))) c.in-Some.ensures
    (omega (arith, c.len.ensures, c.value_len.ensures, row_size c.args.there.now.key c.in-Some.version.now))

pub returns-in-Some-clause-small : goal.returns-in-Some-clause-small
returns-in-Some-clause-small c = omega (arith, (fits c.before).key, (fits c.before).value, c.len.ensures, c.value_len.ensures)
