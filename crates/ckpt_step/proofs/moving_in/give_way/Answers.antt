use Rattle.std.proofs.Common.{sym, subst}
use Rattle.std.specs.Prelude.{OnOk}
use Rattle.ckpt_step.specs.declared.moving_in.When.{When}
use Rattle.ckpt_step.specs.CutOuts.{MayGiveWay, StandsThen}
use Rattle.ckpt_step.proofs.moving_in.give_way.Goals as goal

pub give_way-requires-clause-idle : goal.give_way-requires-clause-idle
give_way-requires-clause-idle c = (subst (λ (x : When). MayGiveWay x c.args.engine.now c.args.leaf) c.in-Idle.is c.requires.may).0

pub give_way-requires-clause-framed : goal.give_way-requires-clause-framed
give_way-requires-clause-framed c = (subst (λ (x : When). MayGiveWay x c.args.engine.now c.args.leaf) c.in-Idle.is c.requires.may).1

pub part-requires-clause-may : goal.part-requires-clause-may
part-requires-clause-may c = subst (λ (x : When). MayGiveWay x c.args.engine.now c.args.leaf) c.in-AtWork.is c.requires.may

pub returns-in-Idle-clause-stands : goal.returns-in-Idle-clause-stands
returns-in-Idle-clause-stands c = subst (λ (x : When). OnOk c.give_way.result (StandsThen c.args.engine.now c.give_way.new.self c.args.leaf c.args.entries.items x)) (sym c.in-Idle.is) c.give_way.ensures.stands

pub returns-in-AtWork-clause-stands : goal.returns-in-AtWork-clause-stands
returns-in-AtWork-clause-stands c = subst (λ (x : When). OnOk c.part.result (StandsThen c.args.engine.now c.part.new.engine c.args.leaf c.args.entries.items x)) (sym c.in-AtWork.is) c.part.ensures.stands
