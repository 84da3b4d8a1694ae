use Rattle.pool_trials.proofs.Begins.{rising}
use Rattle.pool_trials.proofs.open.open_rising.Goals as goal

pub new-requires-2-clause-joint : goal.new-requires-2-clause-joint
new-requires-2-clause-joint c =
    rising _ c.args.hub c.args.first c.args.second c.in_ok-frames.frames.items c.requires.few c.in_ok-frames.ensures
