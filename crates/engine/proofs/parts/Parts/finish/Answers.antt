use Rattle.engine.proofs.Ending.{ends-own, ends-way, goes-way, starts-way, waits-fewer, waits-way}
use Rattle.engine.proofs.Soundness.{keeps-then}
use Rattle.engine.proofs.parts.Parts.finish.Goals as goal

pub loop-answer-init : goal.loop-answer-init
loop-answer-init c = starts-way c.args.self.now c.args.session c.requires.open c.requires.sound

pub loop-answer-preserved : goal.loop-answer-preserved
loop-answer-preserved c = goes-way c.args.self.now c.loop-answer.self c.go_on.new.self c.args.session c.loop-answer.invariant c.in-On.ensures.goes c.in-On.ensures.kept

pub returns-in-Ended-clause-ends : goal.returns-in-Ended-clause-ends
returns-in-Ended-clause-ends c = ends-way c.args.self.now c.loop-answer.self c.go_on.new.self c.args.session c.go_on.new.answer c.loop-answer.invariant c.in-Ended.ensures.goes

pub returns-in-Waits-clause-ends : goal.returns-in-Waits-clause-ends
returns-in-Waits-clause-ends c = waits-way c.args.self.now c.loop-answer.self c.go_on.new.self c.args.session c.in-Waits.leaf c.loop-answer.invariant c.in-Waits.ensures.goes.0

pub returns-in-Waits-clause-fewer : goal.returns-in-Waits-clause-fewer
returns-in-Waits-clause-fewer c = waits-fewer c.args.self.now c.loop-answer.self c.go_on.new.self c.args.session c.in-Waits.leaf c.loop-answer.invariant c.in-Waits.ensures.goes.0 c.in-Waits.ensures.goes.1

pub returns-in-Ended-clause-tells : goal.returns-in-Ended-clause-tells
returns-in-Ended-clause-tells c = ends-own c.args.self.now c.loop-answer.self c.go_on.new.self c.args.session c.go_on.new.answer c.loop-answer.invariant c.in-Ended.ensures.goes

pub returns-in-Ended-clause-kept : goal.returns-in-Ended-clause-kept
returns-in-Ended-clause-kept c = keeps-then c.args.self.now c.loop-answer.self c.go_on.new.self c.loop-answer.invariant.kept c.in-Ended.ensures.kept
