use Rattle.std.proofs.Common.{sym, ◌∙◌}
use Rattle.call_steps.proofs.Targets.{no-table, of-table}
use Rattle.call_steps.proofs.hub.stage_of.Goals as goal

pub returns-in-None : goal.returns-in-None
returns-in-None c = no-table c.args.tables.now c.args.dir.now.leaves c.args.call c.args.state.now (sym c.table_of.ensures ∙ c.in-None.is)

pub returns-in-Some : goal.returns-in-Some
returns-in-Some c = c.first_stage.ensures ∙ of-table c.args.tables.now c.args.dir.now.leaves c.args.call c.args.state.now c.in-Some.table (sym c.table_of.ensures ∙ c.in-Some.is)
