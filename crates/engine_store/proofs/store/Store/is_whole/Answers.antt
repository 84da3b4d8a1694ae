use Rattle.std.proofs.Common.{subst}
use Rattle.tree_dir.specs.Leaves.{Directory}
use Rattle.engine_store.specs.GoneOut.{LeadsToRows}
use Rattle.engine_store.proofs.Fetching.{none_known}
use Rattle.engine_store.proofs.store.Store.is_whole.Goals as goal

pub returns-in-None : goal.returns-in-None
returns-in-None c = λ yes. record {
  leads = subst (λ (d : Directory). LeadsToRows d.leaves c.args.leaf) c.leaves.ensures.are (c.leads_to_rows.ensures yes);
  unwritten = none_known _ c.of.result _ c.of.ensures c.in-None.is;
}
