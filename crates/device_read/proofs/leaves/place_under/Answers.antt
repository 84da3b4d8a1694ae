use Rattle.std.proofs.Common.{◌≡◌, ◌+◌, ◌-◌, ◌/◌, ℕ, List, drop, true, sym, subst, ◌∙◌, inr, arith}
use Rattle.std.specs.List.{AllByRecursion}
use Rattle.row_page.specs.Rows.{is_below}
use Rattle.stored.specs.TableTree.{Entry}
use Rattle.inner_page.proofs.Halving.{holds_behind, not_upto}
use Rattle.inner_page.proofs.TablePages.{rises}
use Rattle.device_read.proofs.leaves.place_under.Goals as goal

pub loop-high-preserved-then-is_above : goal.loop-high-preserved-then-is_above
loop-high-preserved-then-is_above c =
    let key : List ℕ = c.args.key.now in
    let middle : ℕ = c.loop-high.low + (c.loop-high.high - c.loop-high.low) / 2 in
    record {
      order = omega (arith, c.loop-high-test.true);
      within = omega (arith, c.loop-high-test.true, c.loop-high.invariant.within);
      upto = c.loop-high.invariant.upto;
      behind = holds_behind (λ (e : Entry). is_below key e.key) c.args.entries.now middle c.index-entries-middle.result (rises key c.args.entries.now c.requires.climbs) (omega (arith, c.loop-high-test.true, c.loop-high.invariant.within)) c.index-entries-middle.is
          (sym c.is_above.ensures ∙ c.if-is_above.true);
    }

pub loop-high-preserved : goal.loop-high-preserved
loop-high-preserved c =
    let key : List ℕ = c.args.key.now in
    let middle : ℕ = c.loop-high.low + (c.loop-high.high - c.loop-high.low) / 2 in
    record {
      order = omega (arith, c.loop-high-test.true);
      within = c.loop-high.invariant.within;
      upto = inr (not_upto (λ (e : Entry). is_below key e.key) c.args.entries.now middle c.index-entries-middle.result (rises key c.args.entries.now c.requires.climbs) (omega (arith, c.loop-high-test.true, c.loop-high.invariant.within)) c.index-entries-middle.is
          (sym c.is_above.ensures ∙ c.if-is_above.false));
      behind = c.loop-high.invariant.behind;
    }

pub returns : goal.returns
returns c =
    let end : c.loop-high.high ≡ c.loop-high.low + 1 = omega (arith, c.loop-high-test.false, c.loop-high.invariant.order) in
    record {
      within = omega (arith, c.loop-high.invariant.order, c.loop-high.invariant.within);
      upto = c.loop-high.invariant.upto;
      behind = subst (λ (n : ℕ). AllByRecursion (λ (e : Entry). is_below c.args.key.now e.key ≡ true) (drop n c.args.entries.now)) end c.loop-high.invariant.behind;
    }
