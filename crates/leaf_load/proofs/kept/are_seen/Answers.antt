use Rattle.std.proofs.Common.{◌∙◌, ap, sym}
use Rattle.row_page.specs.Greatest.{greatest_in, names_of}
use Rattle.stamp.specs.declared.name.Name.{Name}
use Rattle.leaf_load.specs.Loads.{are_surely_seen}
use Rattle.leaf_load.proofs.Early.{surely_seen}
use Rattle.leaf_load.proofs.kept.are_seen.Goals as goal

pub returns-then-is_surely_seen : goal.returns-then-is_surely_seen
returns-then-is_surely_seen c =
    let m = c.args.marks.now in
    let page = c.args.page.now in (
      λ is. surely_seen m c.args.ids.now page
          (ap (λ d. are_surely_seen m (greatest_in (names_of page)) d) (sym c.durable.ensures) ∙ ap (λ (n : Name). are_surely_seen m n c.durable.result) (sym c.greatest.ensures) ∙ sym c.is_surely_seen.ensures ∙ is),
      λ all. c.if-is_surely_seen.true,
    )
