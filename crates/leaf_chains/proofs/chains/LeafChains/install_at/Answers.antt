use Rattle.ordered_groups.specs.Groups.{entries}
use Rattle.update_chain.specs.Updates.{installed}
use Rattle.leaf_chains.proofs.HeadLemmas.{heads_changed}
use Rattle.leaf_chains.proofs.Index.{index_changed}
use Rattle.leaf_chains.proofs.NameLemmas.{none_changed, none_later, installed_up_to}
use Rattle.leaf_chains.proofs.chains.LeafChains.install_at.Goals as goal

pub invariant_of-self-2 : goal.invariant_of-self-2
invariant_of-self-2 c =
    let slots = c.self.inside.slots.items in
    let heads = c.self.inside.heads in
    let change = installed c.args.update in
    let name = c.later-self-inside.result in
    let raised = none_later c.self.inside.greatest name slots c.later-self-inside.ensures.first c.self.invariant.2 in
    rw c.in_ok-install_in.ensures.installed (
      index_changed c.args.slot change slots (entries c.self.inside.order) c.self.invariant.0,
      heads_changed c.args.slot change heads.front.items heads.words.items slots c.self.invariant.1,
      none_changed name c.args.slot change slots (λ chain. installed_up_to name c.args.update chain c.later-self-inside.ensures.second) raised,
    )
