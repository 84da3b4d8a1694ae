use Rattle.pool_trials.proofs.tests.a_pinned_frame_is_not_scanned_clear.Goals as goal

pub pin_other-requires-2-clause-keeper : goal.pin_other-requires-2-clause-keeper
pin_other-requires-2-clause-keeper g c = (29, c.pin_other.ensures.keeper 29 c.in-Ok.ensures.second.0)
