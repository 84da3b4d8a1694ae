use Rattle.std.proofs.Common.{◌∙◌, ap, sym}
use Rattle.kv_model.specs.History.{Table}
use Rattle.device_read.proofs.LeafPlaces.{number_none, number_some}
use Rattle.device_read.proofs.leaves.number_at.Goals as goal

pub returns-in-Some : goal.returns-in-Some
returns-in-Some c = ap (λ (t : Table). t.number) c.table.view_is ∙ sym (number_some c.args.tables.now c.args.place c.in-Some.table.now (sym c.in-Some.ensures))

pub returns-in-None : goal.returns-in-None
returns-in-None c = sym (number_none c.args.tables.now c.args.place (sym c.in-None.ensures))
