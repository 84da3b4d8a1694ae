use Rattle.std.proofs.Common.{◌∙◌, ap}
use Rattle.std.specs.Prelude.{filter}
use Rattle.kv_model.specs.History.{Placed, standing, is_stable}
use Rattle.kv_plain.specs.Plain.{history_in}
use Rattle.kv_plain.proofs.PlainStanding.{ok_each, all-stable}
use Rattle.kv_plain.proofs.standing.standing_versions.Goals as goal

pub returns : goal.returns
returns c = ok_each _ _ c.standing_at.result c.standing_at.ensures (λ r e. e ∙ (ap (λ h. filter (λ (p : Placed). is_stable 0 p.version) (standing (history_in h))) c.deref.ensures.value ∙ all-stable (standing (history_in c.args.m.now.history.items))))
