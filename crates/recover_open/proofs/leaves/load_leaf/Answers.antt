use Rattle.std.proofs.Common.{ap, subst, sym, List, ◌∙◌}
use Rattle.std.proofs.lemmas.Bool.{both_ways}
use Rattle.row_page.specs.Rows.{Row}
use Rattle.stored.specs.TableTree.{Entry, first_key}
use Rattle.recover_open.specs.Leaves.{AreUnder}
use Rattle.recover_open.proofs.OneLeaf.{leaf_refused, keys_refused}
use Rattle.recover_open.proofs.leaves.load_leaf.Goals as goal

pub returns-in-Err-clause-err : goal.returns-in-Err-clause-err
returns-in-Err-clause-err g c =
    leaf_refused _ _ (g.D.Disk.seen c.args.disk.now) c.entry.inside.link c.args.entry.now (first_key c.args.others.now) c.in-Err.refusal (ap (λ (x : Entry). x.link) c.entry.view_is) c.in-Err.ensures.err

pub returns-else-are_under-clause-err : goal.returns-else-are_under-clause-err
returns-else-are_under-clause-err g c =
    let e = c.args.entry.now in
    let next = first_key c.args.others.now in
    let bytes = g.D.Disk.seen c.args.disk.now in
    keys_refused _ _ bytes c.entry.inside.link e next c.in-Ok.rows c.spoilt.result (ap (λ (x : Entry). x.link) c.entry.view_is) (λ h. c.in-Ok.ensures.ok h)
    (λ under. both_ways c.are_under.result c.if-are_under.false (c.are_under.ensures.1 (subst (λ (l : List Row). AreUnder e next l) (sym (c.deref.ensures.value ∙ c.into_rows-rows.ensures.rows)) under))) c.spoilt.ensures
