use Rattle.std.proofs.Common.{◌∙◌, ap, subst}
use Rattle.update_chain.specs.Updates.{installed}
use Rattle.leaf_chains.specs.declared.added.Added.{Added}
use Rattle.leaf_chains.specs.Adds.{IsAdded}
use Rattle.leaf_chains.specs.Slots.{slot_of}
use Rattle.leaf_chains.proofs.Changes.{kept_slots}
use Rattle.leaf_chains.proofs.chains.LeafChains.install.Goals as goal

pub returns-in_ok-install_at-in-There-clause-slot : goal.returns-in_ok-install_at-in-There-clause-slot
returns-in_ok-install_at-in-There-clause-slot c =
    let key = c.args.key.now in
    let added = subst (λ (a : Added). IsAdded key c.args.update c.args.self.now c.add.new.self a) c.in-There.is c.in_ok-slot.ensures.added in
    ap (slot_of key) c.in_ok-install_at-in-There.ensures.installed
    ∙ (kept_slots key (installed c.in-There.update) c.add.new.self c.in-There.slot ∙ (ap (slot_of key) added.1 ∙ added.0))
