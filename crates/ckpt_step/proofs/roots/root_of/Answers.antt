use Rattle.std.proofs.Common.{◌∙◌, ap, subst}
use Rattle.le_codec.specs.Fields.{IsBytes}
use Rattle.kv_model.specs.History.{Table}
use Rattle.ckpt_step.proofs.roots.root_of.Goals as goal

pub returns-clause-typed : goal.returns-clause-typed
returns-clause-typed c = record {
  name = subst IsBytes (c.as_bytes.ensures ∙ ap (λ (t : Table). t.name) c.table.view_is) c.are_bytes.ensures;
  root = c.requires.fits;
}
