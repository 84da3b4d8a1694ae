use Rattle.std.proofs.Common.{◌≡◌, ◌∙◌, List, Option, ap, sym, subst}
use Rattle.std.specs.Prelude.{bytes_eq}
use Rattle.std.specs.List.{list_any}
use Rattle.stored.specs.Records.{TableRoot, Record}
use Rattle.wt_tool.specs.Verifies.{tables_in}
use Rattle.wt_tool.proofs.Verifying.{has_name, name_in_record}
use Rattle.wt_tool.proofs.verify.is_there.Goals as goal

pub returns-in-Some : goal.returns-in-Some
returns-in-Some c =
    let name = c.args.name.now in
    subst (λ (o : Option Record). c.is_among.result ≡ has_name name (tables_in o)) (sym c.in-Some.is)
    (c.is_among.ensures ∙ (ap (λ (l : List TableRoot). list_any {X = TableRoot} (λ t. bytes_eq t.table.name name) l) c.tables_of.ensures ∙ name_in_record name c.in-Some.found.tables))
