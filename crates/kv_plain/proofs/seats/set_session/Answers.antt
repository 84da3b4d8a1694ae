use Rattle.std.specs.Prelude.{option_map}
use Rattle.std.proofs.lemmas.List.{map-set}
use Rattle.kv_plain.specs.Machine.{transaction_in}
use Rattle.kv_plain.proofs.seats.set_session.Goals as goal

pub returns-then-session-sessions : goal.returns-then-session-sessions
returns-then-session-sessions c = map-set (option_map transaction_in) c.args.sessions.now c.args.session c.args.t
