use Rattle.engine.proofs.Calling.{resumes}
use Rattle.engine.proofs.parts.Parts.resume.Goals as goal

pub returns-clause-answer : goal.returns-clause-answer
returns-clause-answer c = λ kept w now asked inside under st. resumes c.steps_reach.ensures c.finish.new.self kept w now c.args.session asked c.finish.result inside under (c.finish.ensures.ends now st)
