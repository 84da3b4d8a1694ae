use Rattle.engine.specs.Told.{answer_in}
use Rattle.engine.proofs.Owning.{tells-always}
use Rattle.engine.proofs.Soundness.{keeps-same}
use Rattle.engine.proofs.parts.Parts.go.Goals as goal

pub returns-in-Nothing : goal.returns-in-Nothing
returns-in-Nothing c = record { step = c.rest.ensures.step; fewer = c.rest.ensures.fewer; kept = keeps-same c.args.self.now; tells = tells-always (answer_in c.args.self.now c.args.session) c.rest.result c.rest.ensures.tells }
