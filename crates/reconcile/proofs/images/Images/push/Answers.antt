use Rattle.std.proofs.Common.{◌≢◌, ◌<◌, ◌++◌, List, [], ◌∷◌, Option, Some, sym, subst}
use Rattle.std.proofs.lemmas.Bool.{MatchBool-at_false, MatchBool-at_true, both_ways}
use Rattle.row_page.specs.Rows.{Row}
use Rattle.row_page.specs.Views.{row_seen}
use Rattle.leaf_rows.specs.Rows.{image_length}
use Rattle.reconcile.specs.declared.open_image.OpenImage.{OpenImage}
use Rattle.reconcile.specs.Making.{OpenHas}
use Rattle.reconcile.proofs.Cutting.{pushed_new, pushed_open}
use Rattle.reconcile.proofs.images.Images.push.Goals as goal

pub returns-then-push_open : goal.returns-then-push_open
returns-then-push_open c =
    let r = row_seen c.args.cell.now in
    pushed_open c.args.self.now c.push_open.new.opened r (λ none. both_ways c.push_open.result (c.push_open.ensures.none none).0 c.if-push_open.true)
    (λ rows has. MatchBool-at_true (OpenHas c.push_open.new.opened (rows ++ r ∷ [])) (OpenHas c.push_open.new.opened rows × (rows ≢ [] → 32768 < image_length (rows ++ r ∷ []))) c.if-push_open.true (c.push_open.ensures.put rows has))

pub returns : goal.returns
returns c =
    let r = row_seen c.args.cell.now in
    let was = c.push_open.new.opened in
    let over = λ (rows : List Row) (has : OpenHas c.args.self.now.opened rows).
    MatchBool-at_false (OpenHas was (rows ++ r ∷ [])) (OpenHas was rows × (rows ≢ [] → 32768 < image_length (rows ++ r ∷ []))) c.if-push_open.false (c.push_open.ensures.put rows has) in
    pushed_new c.args.self.now (record { done = c.close.new.done; opened = Some c.in_ok-next.next }) c.take.result r
    (λ rows has. (subst (λ (o : Option OpenImage). OpenHas o rows) (sym c.take.ensures.value) (over rows has).0, (over rows has).1)) c.in_ok-close.ensures c.in_ok-next.ensures tt
