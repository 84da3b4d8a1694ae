use Rattle.std.proofs.Common.{refl, subst}
use Rattle.engine_world.specs.Worlds.{doing_of}
use Rattle.engine.specs.Told.{TellsFrom, answer_in}
use Rattle.engine.proofs.Calling.{whole}
use Rattle.engine.proofs.Owning.{ends-then}
use Rattle.engine.proofs.parts.Parts.go_through.Goals as goal

pub returns-in_default-clause-answer : goal.returns-in_default-clause-answer
returns-in_default-clause-answer c = λ w begun asked inside begins st. whole c.steps_reach.ensures c.finish.new.self (doing_of w c.args.session) w begun c.args.session asked c.args.told c.finish.result refl inside begins (λ a is. c.in_default.not-Answer a is) (c.finish.ensures.ends begun st)

pub returns-in-Answer-clause-tells : goal.returns-in-Answer-clause-tells
returns-in-Answer-clause-tells c = λ kept own keeps. subst (TellsFrom kept) c.in-Answer.is own

pub returns-in_default-clause-tells : goal.returns-in_default-clause-tells
returns-in_default-clause-tells c = λ kept own keeps. ends-then kept (answer_in c.args.self.now c.args.session) c.finish.result keeps c.finish.ensures.tells
