use Rattle.std.proofs.Common.{◌+◌, ◌-◌, ◌/◌, ◌<◌, ◌∙◌, ℕ, List, get_or, length, map, sym, arith}
use Rattle.std.proofs.lemmas.List.{length-map}
use Rattle.kv_model.specs.History.{Table}
use Rattle.catalog.specs.Order.{table_at}
use Rattle.catalog.proofs.Splitting.{below_upto, above_from, mapped_at}
use Rattle.catalog.proofs.places.first_not_below.Goals as goal

-- a place among the places is one among the names
in_names : (tables : List Table) (places : List ℕ) (i : ℕ) → i < length places → i < length (map (table_at tables) places)
in_names tables places i lt = omega (arith, lt, length-map places (table_at tables))

pub loop-low-preserved-then-is_below_at : goal.loop-low-preserved-then-is_below_at
loop-low-preserved-then-is_below_at c =
    let i = c.loop-low.low + (c.loop-low.high - c.loop-low.low) / 2 in
    let places = c.args.places.now in
    let at = table_at c.args.tables.now in
    let lt : i < length places = omega (arith, c.loop-low-test.true, c.loop-low.invariant.within) in
    record {
      order = omega (arith, c.loop-low-test.true);
      within = c.loop-low.invariant.within;
      below = below_upto (map at places) i (at (get_or places i 0)) c.args.name.now c.requires.ascend (in_names c.args.tables.now places i lt) (mapped_at at places i lt)
          (sym c.is_below_at.ensures ∙ c.if-is_below_at.true);
      above = c.loop-low.invariant.above;
    }

pub loop-low-preserved : goal.loop-low-preserved
loop-low-preserved c =
    let i = c.loop-low.low + (c.loop-low.high - c.loop-low.low) / 2 in
    let places = c.args.places.now in
    let at = table_at c.args.tables.now in
    let lt : i < length places = omega (arith, c.loop-low-test.true, c.loop-low.invariant.within) in
    record {
      order = omega arith;
      within = omega (arith, c.loop-low-test.true, c.loop-low.invariant.within);
      below = c.loop-low.invariant.below;
      above = above_from (map at places) i (at (get_or places i 0)) c.args.name.now c.requires.ascend (in_names c.args.tables.now places i lt) (mapped_at at places i lt)
          (sym c.is_below_at.ensures ∙ c.if-is_below_at.false);
    }
