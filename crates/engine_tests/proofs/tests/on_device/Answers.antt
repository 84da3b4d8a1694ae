use Rattle.std.proofs.Common.{ap, sym, ◌∙◌}
use Rattle.std.specs.Prelude.{option_map}
use Rattle.kv_model.specs.History.{Table}
use Rattle.engine_tests.proofs.Bases.{one-owned}
use Rattle.engine_tests.proofs.tests.on_device.Goals as goal

pub open-requires-clause-owned : goal.open-requires-clause-owned
open-requires-clause-owned c = one-owned c.create.new.self.tables 0 c.in-Some.table.now c.in_ok-dir.dir.leaves (sym c.table.ensures ∙ ap (option_map (λ t. t.now)) c.in-Some.is)
    (λ l there. c.in_ok-dir.ensures l there ∙ ap (λ (t : Table). t.number) c.table-in-Some.view_is)
