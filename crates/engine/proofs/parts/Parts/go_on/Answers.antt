use Rattle.engine.specs.Told.{answer_in}
use Rattle.engine.proofs.Ending.{taken-goes}
use Rattle.engine.proofs.Owning.{tells-always}
use Rattle.engine.proofs.Soundness.{keeps-same}
use Rattle.engine.proofs.parts.Parts.go_on.Goals as goal

pub returns-in-Nothing : goal.returns-in-Nothing
returns-in-Nothing c = record {
  goes = taken-goes c.args.self.now c.args.self.now c.args.session c.rest.result c.take_answer.result c.take_answer.new.answer c.take_answer.ensures c.rest.ensures.step c.rest.ensures.fewer (tells-always (answer_in c.args.self.now c.args.session) c.rest.result c.rest.ensures.tells);
  kept = keeps-same c.args.self.now;
}

pub returns-in-Hub : goal.returns-in-Hub
returns-in-Hub c = record {
  goes = taken-goes c.args.self.now c.go_on_hub.new.self c.args.session c.go_on_hub.result c.take_answer-in-Hub.result c.take_answer-in-Hub.new.answer c.take_answer-in-Hub.ensures c.go_on_hub.ensures.step c.go_on_hub.ensures.fewer c.go_on_hub.ensures.tells;
  kept = c.go_on_hub.ensures.kept;
}

pub returns-in-Frame : goal.returns-in-Frame
returns-in-Frame c = record {
  goes = taken-goes c.args.self.now c.go_on_frame.new.self c.args.session c.go_on_frame.result c.take_answer-in-Frame.result c.take_answer-in-Frame.new.answer c.take_answer-in-Frame.ensures c.go_on_frame.ensures.step c.go_on_frame.ensures.fewer c.go_on_frame.ensures.tells;
  kept = c.go_on_frame.ensures.kept;
}

pub returns-in-Load : goal.returns-in-Load
returns-in-Load c = record {
  goes = taken-goes c.args.self.now c.load.new.self c.args.session c.load.result c.take_answer-in-Load.result c.take_answer-in-Load.new.answer c.take_answer-in-Load.ensures c.load.ensures.step c.load.ensures.fewer c.load.ensures.tells;
  kept = c.load.ensures.kept;
}

pub returns-in-Store : goal.returns-in-Store
returns-in-Store c = record {
  goes = taken-goes c.args.self.now c.store.new.self c.args.session c.store.result c.take_answer-in-Store.result c.take_answer-in-Store.new.answer c.take_answer-in-Store.ensures c.store.ensures.step c.store.ensures.fewer c.store.ensures.tells;
  kept = c.store.ensures.kept;
}
