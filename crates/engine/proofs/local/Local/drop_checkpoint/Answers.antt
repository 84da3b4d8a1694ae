use Rattle.engine.proofs.local.Local.drop_checkpoint.Goals as goal

pub returns : goal.returns
returns c = λ w st. c.checkpoints_go.ensures.drop c.args.self.now w st
