use Rattle.std.proofs.Common.{◌≡◌, ◌∙◌, ap, subst, sym, true}
use Rattle.std.specs.Prelude.{slice_get}
use Rattle.std.proofs.lemmas.Result.{on_ok_weaker}
use Rattle.catalog.specs.Known.{Known}
use Rattle.kv_model.specs.History.{Table, has_table}
use Rattle.tree_dir.specs.Leaves.{leaves_of}
use Rattle.hist_gather.specs.Added.{HasMore}
use Rattle.hist_gather.specs.Sources.{OfLeaves}
use Rattle.hist_gather.proofs.Places.{place_none, place_some}
use Rattle.hist_gather.proofs.gathering.add_table.Goals as goal

pub returns-in-None-clause-more : goal.returns-in-None-clause-more
returns-in-None-clause-more c = place_none c.args.from c.args.place c.args.history.now (c.in-None.ensures ∙ ap (λ (k : Known). slice_get k.tables c.args.place) c.tables.ensures.are)

pub returns-in-Some-clause-more : goal.returns-in-Some-clause-more
returns-in-Some-clause-more c =
    let from = c.args.from in
    let old = c.args.history.now in
    let new = c.add_leaves.new.history in
    on_ok_weaker c.add_leaves.result
    (λ more. place_some from c.args.place c.in-Some.table.now old new (c.in-Some.ensures ∙ ap (λ (k : Known). slice_get k.tables c.args.place) c.tables.ensures.are)
    (subst (λ (t : Table). HasMore (OfLeaves from t.number (leaves_of t.number from.engine.now.hub.dir.leaves)) old new) c.table-in-Some.view_is more))
    c.add_leaves.ensures.more

pub returns-in-Some-clause-known : goal.returns-in-Some-clause-known
returns-in-Some-clause-known c =
    let tables = c.args.from.engine.now.hub.tables.tables in
    on_ok_weaker c.add_leaves.result
    (λ stays known among. stays known (subst (λ (t : Table). has_table known t.number ≡ true) (sym c.table-in-Some.view_is)
    (among c.in-Some.table.now (sym (c.in-Some.ensures ∙ ap (λ (k : Known). slice_get k.tables c.args.place) c.tables.ensures.are)))))
    c.add_leaves.ensures.known
