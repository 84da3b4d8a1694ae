use Rattle.std.proofs.Common.{rules}
use Rattle.std.proofs.lemmas.Fn.{filter_same}
use Rattle.kv_model.specs.History.{is_stable}
use Rattle.update_chain.specs.declared.update.Update.{Update}
use Rattle.update_chain.proofs.chain.keep_stable.Goals as goal

pub returns : goal.returns
returns c = filter_same _ (λ (u : Update). is_stable c.args.stable u.version) _ (λ u b f at. search rules) _ _ c.retain.ensures.filtered
