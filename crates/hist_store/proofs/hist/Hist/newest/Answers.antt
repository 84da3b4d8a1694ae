use Rattle.std.proofs.Common.{◌∙◌, ap, sym, subst, Option, find}
use Rattle.item.specs.declared.Change.{Change}
use Rattle.stamp.specs.declared.Version.{Version}
use Rattle.kv_model.specs.Holds.{Picks}
use Rattle.kv_model.specs.Ordered.{Older}
use Rattle.kv_model.specs.StoreLaws.{Held}
use Rattle.hist_store.specs.Versions.{is_admitted, versions_of}
use Rattle.hist_store.proofs.Sweeping.{first-is-newest}
use Rattle.hist_store.proofs.hist.Hist.newest.Goals as goal

pub returns-in-Some-clause-picks : goal.returns-in-Some-clause-picks
returns-in-Some-clause-picks c =
    let all = versions_of c.args.table c.args.key.now c.args.self.now in
    let admitted = is_admitted c.args.view.now in
    subst (λ (o : Option (Version Change)). Picks Older (Held all) admitted o) (sym (c.newest.ensures ∙ ap (find admitted) c.in-Some.ensures.lent)) (first-is-newest c.args.view.now all c.in-Some.ensures.descends)
