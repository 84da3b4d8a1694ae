use Rattle.pool_trials.proofs.tests.a_frame_locked_before_the_second_look_is_freed.Goals as goal

pub look_again-requires-clause-keeper : goal.look_again-requires-clause-keeper
look_again-requires-clause-keeper g c = (29, c.point_at.ensures.keeper 29 c.in-Ok.ensures.second.0)

pub let_go-requires : goal.let_go-requires
let_go-requires g c = record { keeper = (29, c.look_again.ensures.keeper 29 (c.point_at.ensures.keeper 29 c.in-Ok.ensures.second.0)) }

pub pin_other-requires-clause-keeper : goal.pin_other-requires-clause-keeper
pin_other-requires-clause-keeper g c =
    (29, c.let_go.ensures.keeper 29 (c.look_again.ensures.keeper 29 (c.point_at.ensures.keeper 29 c.in-Ok.ensures.second.0)))
