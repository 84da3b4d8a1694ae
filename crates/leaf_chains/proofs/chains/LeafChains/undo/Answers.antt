use Rattle.ordered_groups.specs.Groups.{entries}
use Rattle.update_chain.specs.Updates.{undone}
use Rattle.leaf_chains.proofs.HeadLemmas.{heads_changed}
use Rattle.leaf_chains.proofs.Index.{index_changed}
use Rattle.leaf_chains.proofs.NameLemmas.{none_changed, undone_up_to}
use Rattle.leaf_chains.proofs.chains.LeafChains.undo.Goals as goal

pub invariant_of-self : goal.invariant_of-self
invariant_of-self c =
    let slots = c.self.inside.slots.items in
    let heads = c.self.inside.heads in
    let name = c.self.inside.greatest in
    let change = undone c.args.name in
    rw c.undo_in.ensures (
      index_changed c.args.slot change slots (entries c.self.inside.order) c.self.invariant.0,
      heads_changed c.args.slot change heads.front.items heads.words.items slots c.self.invariant.1,
      none_changed name c.args.slot change slots (undone_up_to name c.args.name) c.self.invariant.2,
    )
