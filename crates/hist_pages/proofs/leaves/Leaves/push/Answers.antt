use Rattle.std.proofs.Common.{◌≢◌, ◌<◌, ◌++◌, List, [], ◌∷◌, Option, Some, sym, subst}
use Rattle.std.proofs.lemmas.Bool.{MatchBool-at_false, MatchBool-at_true, both_ways}
use Rattle.stored.specs.HistoryTree.{HistoryRecord}
use Rattle.hist_pages.specs.declared.open_leaf.OpenLeaf.{OpenLeaf}
use Rattle.hist_pages.specs.Leaves.{image_length}
use Rattle.hist_pages.specs.Making.{OpenHas}
use Rattle.hist_pages.specs.Views.{record_seen}
use Rattle.hist_pages.proofs.Cutting.{pushed_new, pushed_open}
use Rattle.hist_pages.proofs.leaves.Leaves.push.Goals as goal

pub returns-then-push_open : goal.returns-then-push_open
returns-then-push_open c =
    let r = record_seen c.args.lent.now in
    pushed_open c.args.self.now c.push_open.new.opened r (λ none. both_ways c.push_open.result (c.push_open.ensures.none none).0 c.if-push_open.true)
    (λ records has. MatchBool-at_true (OpenHas c.push_open.new.opened (records ++ r ∷ [])) (OpenHas c.push_open.new.opened records × (records ≢ [] → 32768 < image_length (records ++ r ∷ []))) c.if-push_open.true (c.push_open.ensures.put records has))

pub returns : goal.returns
returns c =
    let r = record_seen c.args.lent.now in
    let was = c.push_open.new.opened in
    let over = λ (records : List HistoryRecord) (has : OpenHas c.args.self.now.opened records).
    MatchBool-at_false (OpenHas was (records ++ r ∷ [])) (OpenHas was records × (records ≢ [] → 32768 < image_length (records ++ r ∷ []))) c.if-push_open.false (c.push_open.ensures.put records has) in
    pushed_new c.args.self.now (record { done = c.close.new.done; opened = Some c.in_ok-next.next }) c.take.result r
    (λ records has. (subst (λ (o : Option OpenLeaf). OpenHas o records) (sym c.take.ensures.value) (over records has).0, (over records has).1)) c.in_ok-close.ensures c.in_ok-next.ensures tt
