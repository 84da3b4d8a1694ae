use Rattle.std.specs.Prelude.{option_map}
use Rattle.kv_model.specs.Machine as model
use Rattle.kv_plain.specs.Machine.{transaction_in, sessions_in}
use Rattle.kv_plain.proofs.Changing.{put-back}
use Rattle.kv_plain.proofs.seats.write_session.Goals as goal

pub returns : goal.returns
returns c = put-back (sessions_in c.args.sessions.now) (sessions_in c.take_session-old.new.sessions) (sessions_in c.set_session.new.sessions) c.args.session
    (option_map transaction_in c.take_session-old.result) (option_map transaction_in c.in_ok-new.new) (model.written c.args.table c.args.key c.args.change) c.set_session.ensures c.take_session-old.ensures.left c.in_ok-new.ensures c.take_session-old.ensures.taken
