use Rattle.engine.proofs.local.Local.finish_checkpoint.Goals as goal

pub returns : goal.returns
returns c = λ w k st runs. c.checkpoints_go.ensures.finish c.args.self.now w k st runs
