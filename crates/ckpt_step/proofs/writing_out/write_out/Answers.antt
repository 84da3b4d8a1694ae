use Rattle.std.proofs.Common.{inl, inr}
use Rattle.ckpt_step.proofs.OutConcluding.{written_idle}
use Rattle.ckpt_step.proofs.OutCuts.{cut_framed, cut_rows, found_cut, old_enough}
use Rattle.ckpt_step.proofs.OutEnds.{barred, not_done, refused_out, told_engine}
use Rattle.ckpt_step.proofs.writing_out.write_out.Goals as goal

pub returns-in-Err-clause-writes : goal.returns-in-Err-clause-writes
returns-in-Err-clause-writes g c h w stands idle old on follows device =
    let D = g.D.Disk in
    barred D old w c.args.ground.now c.args.engine.now c.args.leaf c.args.disk.now c.in-Err.refusal (c.in-Err.ensures.decided w stands idle) on
    (not_done D old w c.args.ground.now c.args.engine.now c.args.leaf c.args.disk.now (λ x is. g.met.D.Disk.only_now _ x is) on follows device)

pub returns-then-not-is_idle-clause-writes : goal.returns-then-not-is_idle-clause-writes
returns-then-not-is_idle-clause-writes g c h w stands idle old on follows device =
    let D = g.D.Disk in
    (not_done D old w c.args.ground.now c.args.engine.now c.args.leaf c.args.disk.now (λ x is. g.met.D.Disk.only_now _ x is) on follows device, inl (c.is_idle.ensures.no c.if-not-is_idle.true))

pub returns-in_default-cut-clause-writes : goal.returns-in_default-cut-clause-writes
returns-in_default-cut-clause-writes g c h w stands idle old on follows device =
    let D = g.D.Disk in
    (not_done D old w c.args.ground.now c.args.engine.now c.args.leaf c.args.disk.now (λ x is. g.met.D.Disk.only_now _ x is) on follows device, inr (c.in-Ok-cut_leaf.ensures.none c.in_default-cut.is w stands (c.in-Ok.ensures.resolves w stands)))

pub put_out-requires-clause-may : goal.put_out-requires-clause-may
put_out-requires-clause-may g c = (c.is_idle.ensures.yes c.if-not-is_idle.false, cut_framed c.args.engine.now c.args.leaf c.in-Some.cut (found_cut c.args.engine.now c.args.leaf c.in-Ok-cut_leaf.cut c.in-Some.cut c.in-Some.is c.in-Ok-cut_leaf.ensures.cut))

pub put_out-requires-clause-cut : goal.put_out-requires-clause-cut
put_out-requires-clause-cut g c = let cut = found_cut c.args.engine.now c.args.leaf c.in-Ok-cut_leaf.cut c.in-Some.cut c.in-Some.is c.in-Ok-cut_leaf.ensures.cut in (cut.rows, cut.place)

pub returns-in-Ok-put_out-clause-writes : goal.returns-in-Ok-put_out-clause-writes
returns-in-Ok-put_out-clause-writes g c h w stands idle old on follows device =
    let cut = found_cut c.args.engine.now c.args.leaf c.in-Ok-cut_leaf.cut c.in-Some.cut c.in-Some.is c.in-Ok-cut_leaf.ensures.cut in
    let none = c.in-Ok.ensures.resolves w stands in
    let newest = cut_rows c.args.engine.now c.args.leaf c.in-Some.cut cut w c.captures_are_newest.ensures stands none in
    written_idle g.D.Disk old w c.args.ground.now c.put_out.new.ground c.args.engine.now c.put_out.new.engine c.args.leaf c.args.disk.now c.put_out.new.disk stands cut.rows cut.place.leaf cut.place.there
    (c.in-Ok-put_out.ensures.puts h cut.rows cut.place w stands newest old on follows device) idle newest (old_enough c.args.engine.now c.args.leaf c.in-Some.cut cut w c.captures_are_newest.ensures stands none)

pub returns-clause-writes : goal.returns-clause-writes
returns-clause-writes g c h w stands idle old on follows device =
    let cut = found_cut c.args.engine.now c.args.leaf c.in-Ok-cut_leaf.cut c.in-Some.cut c.in-Some.is c.in-Ok-cut_leaf.ensures.cut in
    let none = c.in-Ok.ensures.resolves w stands in
    let newest = cut_rows c.args.engine.now c.args.leaf c.in-Some.cut cut w c.captures_are_newest.ensures stands none in
    refused_out g.D.Disk old w c.args.ground.now c.put_out.new.ground c.args.engine.now c.tell.new.engine c.args.leaf c.args.disk.now c.put_out.new.disk c.in-Err-put_out.error c.put_out.new.engine c.tell.result
    (c.in-Err-put_out.ensures.puts h cut.rows cut.place w stands newest old on follows device) c.in-Err-put_out.ensures.fault c.tell.ensures.tells

pub returns-clause-engine : goal.returns-clause-engine
returns-clause-engine g c = told_engine c.args.engine.now c.put_out.new.engine c.tell.new.engine c.args.leaf c.in-Err-put_out.error c.tell.result c.in-Err-put_out.ensures.kept c.tell.ensures.tells
