use Rattle.std.proofs.Common.{◌≡◌, ◌∙◌, ◌<◌, ℕ, length, ap, subst, sym}
use Rattle.std.specs.Prelude.{slice_get}
use Rattle.std.proofs.lemmas.Bool.{ltb-true}
use Rattle.catalog.specs.Known.{Known}
use Rattle.kv_model.specs.History.{Table}
use Rattle.ckpt_step.proofs.PlacedTables.{all_placed, smaller_placed}
use Rattle.ckpt_step.proofs.emptying.has_tree.Goals as goal

pub returns-in-None : goal.returns-in-None
returns-in-None c = λ yes i t at is away.
    let known = c.tables.result.now in
    let trees = c.args.ground.now.trees in
    let long : length trees.items ≡ c.in-Ok.next = sym (c.in-Ok.ensures.1 ∙ (c.len.ensures ∙ trees.ok.0)) in
    all_placed known.tables known.next c.tables.ensures.known.numbers trees.items (ap (λ (n : ℕ). slice_get known.tables n) long ∙ sym c.in-None.ensures) i t (ap (λ (k : Known). slice_get k.tables i) c.tables.ensures.are ∙ at) away

pub returns-in-Some : goal.returns-in-Some
returns-in-Some c = λ yes i t at is away.
    let known = c.tables.result.now in
    let trees = c.args.ground.now.trees in
    let first = c.in-Some.first.now in
    let long : length trees.items ≡ c.in-Ok.next = sym (c.in-Ok.ensures.1 ∙ (c.len.ensures ∙ trees.ok.0)) in
    smaller_placed known.tables known.next c.tables.ensures.known.numbers trees.items first (ap (λ (n : ℕ). slice_get known.tables n) long ∙ sym c.in-Some.ensures) c.args.table (subst (λ (n : ℕ). c.args.table < n) (ap (λ (t : Table). t.number) c.first.view_is) (ltb-true c.args.table c.first.inside.number yes)) i t (ap (λ (k : Known). slice_get k.tables i) c.tables.ensures.are ∙ at) is away
