use Rattle.std.proofs.Common.{◌≡◌, ◌∙◌, ℕ, List, map, ap, subst}
use Rattle.kv_model.specs.History.{Table}
use Rattle.catalog.specs.Known.{Known, by_name}
use Rattle.catalog.specs.Order.{SplitsAt, table_at}
use Rattle.catalog.proofs.Distinct.{place_nowhere}
use Rattle.catalog.proofs.catalog.Catalog.push.Goals as goal

pub append-requires-clause-absent : goal.append-requires-clause-absent
append-requires-clause-absent c =
    let i = c.first_not_below-i.result in
    let t = c.args.table in
    let name : c.as_bytes.result.now ≡ t.name = c.as_bytes.ensures ∙ ap (λ (u : Table). u.name) c.table.view_is in
    let names : map (table_at c.deref.result.now) c.deref-2.result.now ≡ by_name c.args.self.now.tables =
    ap (λ (l : List Table). map (table_at l) c.deref-2.result.now) c.deref.ensures.value ∙ ap (λ (l : List ℕ). map (table_at c.self.inside.tables.items) l) c.deref-2.ensures.value ∙
    c.self.invariant.order.sorted ∙ ap (λ (k : Known). by_name k.tables) c.self.view_is in (
      place_nowhere t.name c.args.self.now.tables c.requires.new,
      subst (λ (n : List ℕ). SplitsAt (by_name c.args.self.now.tables) n i) name (subst (λ (l : List Table). SplitsAt l c.as_bytes.result.now i) names c.first_not_below-i.ensures),
    )
