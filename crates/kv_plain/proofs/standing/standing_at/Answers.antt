use Rattle.std.proofs.Common.{◌∙◌, ap, map, ◌++◌}
use Rattle.kv_model.specs.History.{standing}
use Rattle.kv_plain.specs.Plain.{history_in, placed_in, standing_by}
use Rattle.kv_plain.proofs.PlainStanding.{standing-stable}
use Rattle.kv_plain.proofs.standing.standing_at.Goals as goal

pub returns : goal.returns
returns c = c.in_ok-push_standing.ensures
    ∙ (ap (λ l. map placed_in l ++ standing_by (history_in c.args.history.now) c.bound_of.result) c.new-out.ensures.items
    ∙ standing-stable c.args.stable c.bound_of.result (standing (history_in c.args.history.now)) c.bound_of.ensures)
