use Rattle.std.proofs.Common.{ap, sym, ◌∙◌}
use Rattle.std.specs.Prelude.{option_map}
use Rattle.call_steps.specs.Tables.{next_for, stage_for}
use Rattle.call_steps.proofs.Targets.{next-again, none-stage}
use Rattle.call_steps.proofs.hub.next_stage.Goals as goal

pub returns-in-None : goal.returns-in-None
returns-in-None c = none-stage c.args.call (next_for c.args.call c.args.leaf c.args.dir.now.leaves) (sym c.next_leaf.ensures ∙ c.in-None.is)

pub returns-in-Some : goal.returns-in-Some
returns-in-Some c = c.stage_in.ensures ∙ ap (option_map (stage_for c.args.call)) (next-again c.args.dir.now c.args.call c.args.leaf c.in-Some.next c.stands.ensures (sym c.next_leaf.ensures ∙ c.in-Some.is))
