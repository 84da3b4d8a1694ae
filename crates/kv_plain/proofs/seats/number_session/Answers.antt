use Rattle.std.specs.Prelude.{option_map}
use Rattle.kv_model.specs.Machine as model
use Rattle.kv_plain.specs.Machine.{transaction_in, sessions_in}
use Rattle.kv_plain.proofs.Changing.{put-back}
use Rattle.kv_plain.proofs.seats.number_session.Goals as goal

pub returns : goal.returns
returns c = put-back (sessions_in c.args.sessions.now) (sessions_in c.take_session-t.new.sessions) (sessions_in c.set_session.new.sessions) c.args.session
    (option_map transaction_in c.take_session-t.result) (option_map transaction_in c.with_id.result) (λ (t : model.Transaction). record t { id = c.args.id }) c.set_session.ensures c.take_session-t.ensures.left c.with_id.ensures c.take_session-t.ensures.taken
