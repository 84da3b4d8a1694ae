use Rattle.std.proofs.Common.{rules, ◌≤◌, ◌∙◌, Some, Option, ap, sym, subst, arith}
use Rattle.std.proofs.lemmas.Option.{slice_get_past}
use Rattle.stored.specs.Records.{Root}
use Rattle.device_leaf.specs.NoHistory.{no_root}
use Rattle.tree_open.specs.declared.place.TreePlace.{TreePlace}
use Rattle.ckpt_step.specs.Trees.{placed_by}
use Rattle.ckpt_step.proofs.Told.{low_or, read_at, root_kept, root_past, root_told}
use Rattle.ckpt_step.proofs.roots.root_at.Goals as goal

pub returns-in-Some-Some-clause-is : goal.returns-in-Some-Some-clause-is
returns-in-Some-Some-clause-is c =
    let there = read_at c.args.told.now c.args.place c.in-Some-Some.field-0.now c.in-Some-Some.ensures.lookup.3.0 c.in-Some-Some.ensures.lookup.3.1 in
    c.typed.ensures.is ∙ sym (root_told c.args.was.now c.args.told.now c.args.place c.in-Some-Some.tree no_root c.requires.told.kept (there ∙ ap (λ (o : Option TreePlace). Some o) c.in-Some-Some.field-0-is))

pub returns-in-Some-Some-clause-fits : goal.returns-in-Some-Some-clause-fits
returns-in-Some-Some-clause-fits c = record {
  level = subst (λ (r : Root). r.level ≤ 60) (sym (returns-in-Some-Some-clause-is c)) (low_or (placed_by c.args.was.now c.args.told.now) c.args.place no_root c.requires.told.low (omega arith));
  link = c.typed.ensures.link;
}

pub returns-in-Some-None-clause-is : goal.returns-in-Some-None-clause-is
returns-in-Some-None-clause-is c =
    let there = read_at c.args.told.now c.args.place c.in-Some-None.field-0.now c.in-Some-None.ensures.lookup.3.0 c.in-Some-None.ensures.lookup.3.1 in
    c.root_in.ensures ∙ sym (root_kept c.args.was.now c.args.told.now c.args.place no_root c.requires.told.kept (there ∙ ap (λ (o : Option TreePlace). Some o) c.in-Some-None.field-0-is))

pub returns-in-Some-None-clause-fits : goal.returns-in-Some-None-clause-fits
returns-in-Some-None-clause-fits c = record {
  level = subst (λ (r : Root). r.level ≤ 60) (sym (returns-in-Some-None-clause-is c)) (low_or (placed_by c.args.was.now c.args.told.now) c.args.place no_root c.requires.told.low (omega arith));
  link = search rules;
}

pub returns-in-None-clause-is : goal.returns-in-None-clause-is
returns-in-None-clause-is c = c.no_root.ensures ∙ sym (root_past c.args.was.now c.args.told.now c.args.place no_root c.requires.told.kept (slice_get_past c.args.told.now c.args.place c.in-None.ensures.lookup.3))
