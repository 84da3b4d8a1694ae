use Rattle.std.specs.Prelude.{option_map}
use Rattle.kv_model.specs.Machine as model
use Rattle.kv_plain.specs.Machine.{transaction_in, sessions_in}
use Rattle.kv_plain.proofs.Changing.{put-back}
use Rattle.kv_plain.proofs.seats.fail_session.Goals as goal

pub returns : goal.returns
returns c = put-back (sessions_in c.args.sessions.now) (sessions_in c.take_session-t.new.sessions) (sessions_in c.set_session.new.sessions) c.args.session
    (option_map transaction_in c.take_session-t.result) (option_map transaction_in c.maybe_in_phase.result) (model.in_phase model.Failed) c.set_session.ensures c.take_session-t.ensures.left c.maybe_in_phase.ensures c.take_session-t.ensures.taken
