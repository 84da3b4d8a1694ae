use Rattle.std.proofs.Common.{◌<◌, List, length, ap, subst, sym, arith}
use Rattle.catalog.specs.Known.{Known}
use Rattle.engine_world.proofs.EditedLeaves.{some-at}
use Rattle.ckpt_step.specs.declared.lives.Lone.{Lone}
use Rattle.ckpt_step.proofs.OtherLives.{AreOthersTo, all_others, none_yet, one_more}
use Rattle.ckpt_step.proofs.writing.others_of.Goals as goal

pub loop-place-init : goal.loop-place-init
loop-place-init c old written since =
    let e = c.args.engine.now in
    subst (λ (l : List Lone). AreOthersTo e.hub.tables.tables e.hub.dir.leaves c.args.lives.now l c.args.tables c.args.tables) (sym c.new-others.ensures) (none_yet e.hub.tables.tables e.hub.dir.leaves c.args.lives.now c.args.tables)

pub loop-place-preserved : goal.loop-place-preserved
loop-place-preserved c old written since =
    let e = c.args.engine.now in
    let known = e.hub.tables.tables in
    let place = c.loop-place.place in
    let lt : place < length known = omega (arith, c.loop-place-test.true, c.len-count.ensures.count, ap (λ (k : Known). length k.tables) c.tables.ensures.are) in
    let t = some-at known place lt in
    one_more known e.hub.dir.leaves c.args.lives.now since.lone.distinct (λ l there live. (since.leaf l there live).there) c.loop-place.others c.args.tables place (c.loop-place.invariant old written since) c.add_table.new.others t.0 (omega (arith, c.loop-place.auto.place)) t.1 (c.in_ok-add_table.ensures t.0 t.1)

pub returns : goal.returns
returns c w stands old written since led =
    let e = c.args.engine.now in
    let known = e.hub.tables.tables in
    all_others e.hub.dir known e.hub.tables.next c.args.lives.now c.loop-place.others c.args.tables c.loop-place.place stands.dir stands.catalog.numbers (λ l there live. (since.leaf l there live).there) led (omega (arith, c.loop-place-test.false, c.len-count.ensures.count, ap (λ (k : Known). length k.tables) c.tables.ensures.are)) (c.loop-place.invariant old written since)
