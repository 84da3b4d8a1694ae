use Rattle.std.proofs.Common.{◌≡◌, ◌+◌, ◌-◌, ◌/◌, ℕ, drop, true, sym, subst, ◌∙◌, inr, arith}
use Rattle.std.specs.List.{AllByRecursion}
use Rattle.stored.specs.HistoryTree.{HistoryEntry, Mark, is_before}
use Rattle.inner_page.specs.Marks.{mark_seen}
use Rattle.inner_page.proofs.Halving.{holds_behind, not_upto}
use Rattle.inner_page.proofs.HistoryPages.{rises}
use Rattle.inner_page.proofs.history.place_under.Goals as goal

pub loop-high-preserved-then-is_behind : goal.loop-high-preserved-then-is_behind
loop-high-preserved-then-is_behind c =
    let mark : Mark = mark_seen c.args.mark.now in
    let middle : ℕ = c.loop-high.low + (c.loop-high.high - c.loop-high.low) / 2 in
    record {
      order = omega (arith, c.loop-high-test.true);
      within = omega (arith, c.loop-high-test.true, c.loop-high.invariant.within);
      upto = c.loop-high.invariant.upto;
      behind = holds_behind (λ (e : HistoryEntry). is_before mark e.least) c.args.entries.now middle c.index-entries-middle.result (rises mark c.args.entries.now c.requires.climbs) (omega (arith, c.loop-high-test.true, c.loop-high.invariant.within)) c.index-entries-middle.is
          (sym c.is_behind.ensures ∙ c.if-is_behind.true);
    }

pub loop-high-preserved : goal.loop-high-preserved
loop-high-preserved c =
    let mark : Mark = mark_seen c.args.mark.now in
    let middle : ℕ = c.loop-high.low + (c.loop-high.high - c.loop-high.low) / 2 in
    record {
      order = omega (arith, c.loop-high-test.true);
      within = c.loop-high.invariant.within;
      upto = inr (not_upto (λ (e : HistoryEntry). is_before mark e.least) c.args.entries.now middle c.index-entries-middle.result (rises mark c.args.entries.now c.requires.climbs) (omega (arith, c.loop-high-test.true, c.loop-high.invariant.within)) c.index-entries-middle.is
          (sym c.is_behind.ensures ∙ c.if-is_behind.false));
      behind = c.loop-high.invariant.behind;
    }

pub returns : goal.returns
returns c =
    let end : c.loop-high.high ≡ c.loop-high.low + 1 = omega (arith, c.loop-high-test.false, c.loop-high.invariant.order) in
    record {
      within = omega (arith, c.loop-high.invariant.order, c.loop-high.invariant.within);
      upto = c.loop-high.invariant.upto;
      behind = subst (λ (n : ℕ). AllByRecursion (λ (e : HistoryEntry). is_before (mark_seen c.args.mark.now) e.least ≡ true) (drop n c.args.entries.now)) end c.loop-high.invariant.behind;
    }
