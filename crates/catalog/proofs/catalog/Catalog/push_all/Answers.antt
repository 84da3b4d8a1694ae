use Rattle.std.proofs.Common.{◌∙◌, ◌++◌, ◌∷◌, [], List, reverse, ap, sym, subst}
use Rattle.kv_model.specs.History.{Table}
use Rattle.catalog.specs.Known.{Known}
use Rattle.catalog.specs.Push.{MayAllFollow}
use Rattle.catalog.proofs.Following.{last_follows, others_follow, moved}
use Rattle.catalog.proofs.catalog.Catalog.push_all.Goals as goal

pub push-requires : goal.push-requires
push-requires c =
    last_follows c.loop-table.self c.pop.new.self.items c.in-Some.table c.args.next (subst (λ (l : List Table). MayAllFollow c.loop-table.self l c.args.next) c.in-Some.ensures.items c.loop-table.invariant.may) c.ranges.next.fits

pub loop-table-preserved : goal.loop-table-preserved
loop-table-preserved c =
    let old = c.loop-table.self in
    let t = c.in-Some.table in
    let front = c.pop.new.self.items in
    let may : MayAllFollow old (front ++ t ∷ []) c.args.next = subst (λ (l : List Table). MayAllFollow old l c.args.next) c.in-Some.ensures.items c.loop-table.invariant.may in
    record {
      may = subst (λ (k : Known). MayAllFollow k front c.args.next) (sym c.in_ok-push.ensures) (others_follow old front t c.args.next may);
      same = ap (λ (k : Known). front ++ reverse k.tables) c.in_ok-push.ensures ∙ sym (moved front t old.tables) ∙ ap (λ (l : List Table). l ++ reverse old.tables) (sym c.in-Some.ensures.items) ∙ c.loop-table.invariant.same;
    }
