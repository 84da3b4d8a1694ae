use Rattle.std.proofs.Common.{◌∙◌, ap, sym, option_map}
use Rattle.leaf_chains.specs.declared.slot.KeyChain.{KeyChain}
use Rattle.leaf_chains.specs.Slots.{chain_at}
use Rattle.leaf_chains.proofs.Changes.{held}
use Rattle.leaf_chains.proofs.Installs.{no_chain, read_chain}
use Rattle.leaf_chains.proofs.chains.LeafChains.chain_of.Goals as goal

pub returns-in_err-slot : goal.returns-in_err-slot
returns-in_err-slot c =
    let none = no_chain c.args.key.now c.args.self.now (sym c.find.ensures ∙ c.in_err-slot.was) in
    rw c.from_residual.ensures none

pub returns : goal.returns
returns c =
    let there = held c.args.key.now c.args.self.now c.in_ok-slot.slot (sym c.find.ensures ∙ c.in_ok-slot.was) in
    read_chain c.chain.result (chain_at c.args.key.now c.args.self.now) (c.chain.ensures ∙ ap (option_map (λ (s : KeyChain). s.chain)) there)
