use Rattle.std.proofs.Common.{ℕ, sym, subst, arith}
use Rattle.item.specs.declared.Change.{Change}
use Rattle.stamp.specs.declared.Version.{Version}
use Rattle.row_page.specs.Views.{row_seen}
use Rattle.evict_step.proofs.BroughtBack.{PutsOne, PutsRows, none-put, puts-back, rows-put}
use Rattle.evict_step.proofs.back.put_rows.Goals as goal

pub loop-left-init : goal.loop-left-init
loop-left-init c = record {
  within = omega (arith, c.len-left.ensures);
  puts = subst (λ (n : ℕ). PutsRows c.args.page.now n c.args.leaf.now c.args.leaf.now) (sym c.len-left.ensures) (none-put c.args.page.now c.args.leaf.now);
}

pub loop-left-preserved : goal.loop-left-preserved
loop-left-preserved c = let now = c.loop-left.invariant in record {
  within = omega (arith, now.within);
  puts = puts-back c.args.page.now c.loop-left.left (row_seen c.cell-cell.result) c.args.leaf.now c.loop-left.leaf c.put.new.leaf (omega (arith, c.loop-left-test.true)) c.requires c.cell-cell.ensures now.puts
      (subst (λ (v : Version Change). PutsOne c.loop-left.leaf c.put.new.leaf c.cell-cell.result.key.now v) c.in_ok-version.ensures (record { holds = c.in_ok-put.ensures.put; fit = c.in_ok-put.ensures.fit }));
}

pub returns-clause-put : goal.returns-clause-put
returns-clause-put c = rows-put c.args.page.now c.loop-left.left c.args.leaf.now c.loop-left.leaf (omega (arith, c.loop-left-test.false)) c.loop-left.invariant.puts

pub returns-clause-fit : goal.returns-clause-fit
returns-clause-fit c = c.loop-left.invariant.puts.fit
