use Rattle.std.proofs.Common.{ap, sym, ◌∙◌}
use Rattle.std.specs.Prelude.{option_map}
use Rattle.call_steps.specs.Tables.{leaf_sought, sought, stage_for}
use Rattle.call_steps.proofs.Targets.{none-stage, sought-again}
use Rattle.call_steps.proofs.hub.first_stage.Goals as goal

pub returns-in-None : goal.returns-in-None
returns-in-None c = none-stage c.args.call (leaf_sought c.args.dir.now.leaves c.args.table (sought c.args.call c.args.state.now c.args.table)) (sym c.leaf_for.ensures ∙ c.in-None.is)

pub returns-in-Some : goal.returns-in-Some
returns-in-Some c = c.stage_in.ensures ∙ ap (option_map (stage_for c.args.call))
    (sought-again c.args.dir.now c.args.table (sought c.args.call c.args.state.now c.args.table) c.in-Some.leaf c.stands.ensures (sym c.leaf_for.ensures ∙ c.in-Some.is))
