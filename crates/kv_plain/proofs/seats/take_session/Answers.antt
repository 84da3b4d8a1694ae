use Rattle.std.proofs.Common.{◌∙◌, ap}
use Rattle.std.specs.Prelude.{option_map, slice_set, None}
use Rattle.std.proofs.lemmas.List.{map-set}
use Rattle.kv_plain.specs.Machine.{transaction_in, sessions_in}
use Rattle.kv_plain.proofs.seats.take_session.Goals as goal

pub returns-then-session-sessions-clause-left : goal.returns-then-session-sessions-clause-left
returns-then-session-sessions-clause-left c =
    ap (λ o. sessions_in (slice_set c.args.sessions.now c.args.session o)) c.take.ensures.after ∙ map-set (option_map transaction_in) c.args.sessions.now c.args.session None
