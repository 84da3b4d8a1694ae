use Rattle.std.proofs.Common.{◌≡◌, ◌∙◌, ◌+◌, ◌-◌, ◌/◌, ℕ, drop, sym, subst, true, arith}
use Rattle.std.specs.List.{AllByRecursion}
use Rattle.row_page.specs.Rows.{is_below}
use Rattle.stored.specs.Records.{TableRoot}
use Rattle.device_read.proofs.ByName.{above_from, below_upto, found_named, none_named}
use Rattle.device_read.proofs.find.place_of.Goals as goal

pub loop-low-preserved-in-Less : goal.loop-low-preserved-in-Less
loop-low-preserved-in-Less c =
    let was = c.loop-low.invariant in
    let middle : ℕ = c.loop-low.low + (c.loop-low.high - c.loop-low.low) / 2 in
    record {
      order = omega (arith, c.loop-low-test.true);
      within = was.within;
      below = below_upto c.args.name.now c.args.tables.now middle c.index-tables-middle.result c.requires (omega (arith, c.loop-low-test.true, was.within)) c.index-tables-middle.is (sym c.compare.ensures ∙ c.in-Less.is);
      above = was.above;
    }

pub returns-in-Equal-clause-found : goal.returns-in-Equal-clause-found
returns-in-Equal-clause-found c =
    let middle : ℕ = c.loop-low.low + (c.loop-low.high - c.loop-low.low) / 2 in
    found_named c.args.name.now c.args.tables.now middle c.index-tables-middle.result c.requires (omega (arith, c.loop-low-test.true, c.loop-low.invariant.within)) c.index-tables-middle.is (sym c.compare.ensures ∙ c.in-Equal.is)

pub loop-low-preserved : goal.loop-low-preserved
loop-low-preserved c =
    let was = c.loop-low.invariant in
    let middle : ℕ = c.loop-low.low + (c.loop-low.high - c.loop-low.low) / 2 in
    record {
      order = omega (arith, c.loop-low-test.true);
      within = omega (arith, c.loop-low-test.true, was.within);
      below = was.below;
      above = above_from c.args.name.now c.args.tables.now middle c.index-tables-middle.result c.requires (omega (arith, c.loop-low-test.true, was.within)) c.index-tables-middle.is (sym c.compare.ensures ∙ c.in-Greater.is);
    }

pub returns-clause-none : goal.returns-clause-none
returns-clause-none c =
    let was = c.loop-low.invariant in
    let end : c.loop-low.high ≡ c.loop-low.low = omega (arith, c.loop-low-test.false, was.order) in
    none_named c.args.name.now c.args.tables.now c.loop-low.low was.below (subst (λ (n : ℕ). AllByRecursion (λ (t : TableRoot). is_below c.args.name.now t.table.name ≡ true) (drop n c.args.tables.now)) end was.above)
