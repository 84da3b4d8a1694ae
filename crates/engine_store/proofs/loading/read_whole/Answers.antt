use Rattle.std.proofs.Common.{refl, arith, sym, ◌∙◌}
use Rattle.engine_store.proofs.WholeLeaves.{read_all}
use Rattle.engine_store.proofs.loading.read_whole.Goals as goal

pub returns-clause-ok : goal.returns-clause-ok
returns-clause-ok g c = λ h shelf on.
    read_all _ (omega arith) refl (g.D.Disk.seen c.args.disk.now) c.args.leaves.now c.args.leaf shelf (λ l there. sym (c.leads_to_rows.ensures l there) ∙ c.if-not-leads_to_rows.false) c.one_is_loaded.ensures on c.read_leaf.result (c.read_leaf.ensures.ok h)
