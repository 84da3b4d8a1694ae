use Rattle.std.proofs.Common.{◌∙◌, ◌++◌, [], ℕ, List, reverse, ap, sym, subst}
use Rattle.std.proofs.lemmas.List.{append-nil}
use Rattle.kv_model.specs.History.{Table}
use Rattle.kv_model.specs.Content.{descending, table_lt}
use Rattle.catalog.specs.Known.{Known}
use Rattle.catalog.specs.Push.{MayAllFollow}
use Rattle.catalog.proofs.Recorded.{recorded_follow, recorded_order}
use Rattle.catalog.proofs.catalog.Catalog.open.Goals as goal

pub push_all-requires : goal.push_all-requires
push_all-requires c =
    let start : Known = record { tables = []; next = 1 } in
    subst (λ (k : Known). MayAllFollow k c.in_ok-sorted.sorted.items c.max.result) (sym c.new-catalog.ensures)
    (subst (λ (l : List Table). MayAllFollow start l c.max.result) (sym c.in_ok-sorted.ensures)
    (subst (λ (n : ℕ). MayAllFollow start (descending table_lt c.args.tables.items) n) (sym c.max.ensures) (recorded_follow c.args.tables.items c.args.next c.requires)))

pub returns-clause-names : goal.returns-clause-names
returns-clause-names c =
    recorded_order c.args.tables.items c.push_all.new.self.tables c.args.next c.requires
    (c.in_ok-push_all.ensures.tables ∙ ap (λ (k : Known). c.in_ok-sorted.sorted.items ++ reverse k.tables) c.new-catalog.ensures ∙ append-nil c.in_ok-sorted.sorted.items ∙ c.in_ok-sorted.ensures)
