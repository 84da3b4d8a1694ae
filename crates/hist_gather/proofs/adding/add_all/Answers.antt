use Rattle.std.proofs.Common.{◌≡◌, ◌∙◌, [], List, length, sym, subst, arith}
use Rattle.std.proofs.lemmas.List.{map-id}
use Rattle.std.proofs.lemmas.Iterator.Adapters.{YieldsList-from_vec}
use Rattle.std.proofs.lemmas.Iterator.Consumers.{YieldsList-end, YieldsList-turn}
use Rattle.row_page.specs.Rows.{RowFits, key_most}
use Rattle.reconcile.specs.Cells.{cell_version}
use Rattle.reconcile.specs.declared.image.Moved.{Moved}
use Rattle.hist_gather.specs.Added.{HasMore, OfMoved}
use Rattle.hist_gather.proofs.Members.{all_at}
use Rattle.hist_gather.proofs.Places.{moved_more, moved_none}
use Rattle.hist_gather.proofs.adding.add_all.Goals as goal

pub loop-one-init : goal.loop-one-init
loop-one-init c = record { more = moved_none c.args.table c.args.history.now; known = λ tables has known. known; fit = λ fit. fit }

pub add_one-requires : goal.add_one-requires
add_one-requires c =
    let gives = c.into_iter-one-iterator.ensures.into_iter_gives in
    let e = YieldsList-from_vec c.args.versions.items gives.0 (omega (arith, gives.1, c.args.versions.ok.0)) in
    let t = YieldsList-turn e c.loop-one.yielded _ c.loop-one.yielded_by _ c.next.new.self c.in-Some.one c.in-Some.is c.next.ensures.steps in
    all_at (λ (m : Moved). RowFits [] key_most (m.key, cell_version m.version)) c.args.versions.items (length c.loop-one.yielded) c.in-Some.one c.requires t.0 t.1

pub loop-one-preserved : goal.loop-one-preserved
loop-one-preserved c =
    let inv = c.loop-one.invariant in
    let own = c.in_ok-add_one.ensures in
    record {
      more = moved_more c.args.table c.loop-one.yielded c.in-Some.one c.args.history.now c.loop-one.history c.add_one.new.history inv.more own.more;
      known = λ tables has known. own.known tables has (inv.known tables has known);
      fit = λ fit. own.fit (inv.fit fit);
    }

pub returns-clause-more : goal.returns-clause-more
returns-clause-more c =
    let gives = c.into_iter-one-iterator.ensures.into_iter_gives in
    let e = YieldsList-from_vec c.args.versions.items gives.0 (omega (arith, gives.1, c.args.versions.ok.0)) in
    let t = YieldsList-end e c.loop-one.yielded _ c.loop-one.yielded_by _ c.next.new.self c.in-None.is c.next.ensures.steps in
    let all : c.loop-one.yielded ≡ c.args.versions.items = sym (map-id c.loop-one.yielded) ∙ t.0 in
    subst (λ (l : List Moved). HasMore (OfMoved c.args.table l) c.args.history.now c.loop-one.history) all c.loop-one.invariant.more
