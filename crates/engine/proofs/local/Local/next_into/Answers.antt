use Rattle.std.proofs.Common.{◌≡◌, ◌≤◌, length, arith}
use Rattle.wt_calls.specs.Calls.{way_in}
use Rattle.engine.proofs.OneRow.{no-row, one-row}
use Rattle.engine.proofs.local.Local.next_into.Goals as goal

pub returns-clause-row : goal.returns-clause-row
returns-clause-row c = λ w name st of.
    let called = c.in_ok-next_rows.ensures.rows w name st of in
    let some : 1 ≤ length c.next_rows.new.rows = (let count = c.len.ensures in let more = c.if-len-eq0.false in omega (arith, count, more)) in
    (called.0, one-row w c.args.session c.args.cursor name (way_in c.args.way) c.next_rows.new.rows called.0 called.1 some c.next_rows.ensures.few, called.2)

pub returns-then-len-eq0-clause-row : goal.returns-then-len-eq0-clause-row
returns-then-len-eq0-clause-row c = λ w name st of.
    let called = c.in_ok-next_rows.ensures.rows w name st of in
    let none : length c.next_rows.new.rows ≡ 0 = (let count = c.len.ensures in let is = c.if-len-eq0.true in omega (arith, count, is)) in
    (called.0, no-row w c.args.session c.args.cursor name (way_in c.args.way) c.next_rows.new.rows called.0 called.1 none, called.2)
