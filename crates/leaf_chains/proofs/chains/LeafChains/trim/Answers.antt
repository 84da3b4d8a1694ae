use Rattle.ordered_groups.specs.Groups.{entries}
use Rattle.update_chain.specs.Updates.{trimmed}
use Rattle.leaf_chains.proofs.HeadLemmas.{heads_changed}
use Rattle.leaf_chains.proofs.Index.{index_changed}
use Rattle.leaf_chains.proofs.NameLemmas.{none_changed, trimmed_up_to}
use Rattle.leaf_chains.proofs.chains.LeafChains.trim.Goals as goal

pub invariant_of-self : goal.invariant_of-self
invariant_of-self c =
    let slots = c.self.inside.slots.items in
    let heads = c.self.inside.heads in
    let name = c.self.inside.greatest in
    let change = trimmed c.args.pin c.args.floor in
    rw c.trim_in.ensures (
      index_changed c.args.slot change slots (entries c.self.inside.order) c.self.invariant.0,
      heads_changed c.args.slot change heads.front.items heads.words.items slots c.self.invariant.1,
      none_changed name c.args.slot change slots (trimmed_up_to name c.args.pin c.args.floor) c.self.invariant.2,
    )
