use Rattle.std.proofs.Common.{◌∙◌, ap, refl, map, List}
use Rattle.std.proofs.lemmas.List.{with_items_is}
use Rattle.std.specs.Vec.{with_items}
use Rattle.row_page.specs.Rows.{Row}
use Rattle.recover_open.specs.Bare.{kept_of}
use Rattle.recover_open.proofs.opening.assembled.Goals as goal

pub returns : goal.returns
returns c = record {
  place = refl;
  kept = record { «record» = c.args.found; trees = c.args.trees.places; leaves = with_items c.args.trees.leaves c.keep_all.new.leaves };
  is = refl;
  names = refl;
  places = refl;
  rows_are = with_items_is c.args.trees.leaves c.keep_all.new.leaves (c.keep_all.auto.leaves ∙ c.deref_mut.ensures.len) ∙ c.keep_all.ensures ∙ ap (λ (l : List (List Row)). map (kept_of c.args.found) l) c.deref_mut.ensures.value;
}
