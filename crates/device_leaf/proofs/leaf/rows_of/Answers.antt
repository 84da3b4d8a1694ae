use Rattle.std.proofs.Common.{inr, sym, ◌∙◌, ap, subst, ◌≡◌, List, Option}
use Rattle.std.specs.Prelude.{nat_eq, IfSome}
use Rattle.std.proofs.lemmas.Bool.{eq-eqb, both_ways, and_from}
use Rattle.stamp.specs.declared.name.Name.{Name}
use Rattle.row_page.specs.Greatest.{greatest_in, most_in, names_of, durables_of}
use Rattle.row_page.specs.Rows.{Row, IsPage}
use Rattle.row_page.proofs.Leaves.{one_page}
use Rattle.device_leaf.proofs.leaf.rows_of.Goals as goal
use Rattle.device_leaf.proofs.leaf.rows_of.Goals.{else-eq-via-then-eq+else-durable-link, else-eq-via-else-eq}

pub returns-clause-err : goal.returns-clause-err
returns-clause-err c = inr (
  c.spoilt-else-eq.ensures,
  λ rows page.
      let same : c.in-Ok-Some.leaf ≡ rows = sym (one_page c.args.block.items rows c.in-Ok-Some.leaf page.page (subst (λ (o : Option (List Row)). IfSome o (λ found. IsPage c.args.block.items found)) c.in-Ok-Some.field-0-is c.in-Ok-Some.ensures.found)) in
      let name : c.greatest.result ≡ c.args.link.greatest = c.greatest.ensures ∙ ap (λ (l : List Row). greatest_in (names_of l)) same ∙ sym page.says.greatest in
      elim c.else-eq.branch [
        | else-eq-via-then-eq+else-durable-link w ↦ w.if-durable-link.false (w.durable.ensures ∙ ap (λ (l : List Row). most_in (durables_of l)) same ∙ sym page.says.durable)
        | else-eq-via-else-eq w ↦ both_ways c.eq.result w.if-eq.false
            (c.eq.ensures ∙ and_from (nat_eq c.greatest.result.run c.args.link.greatest.run) (nat_eq c.greatest.result.id c.args.link.greatest.id) (eq-eqb _ _ (ap (λ (n : Name). n.run) name)) (eq-eqb _ _ (ap (λ (n : Name). n.id) name)))
      ],
)
