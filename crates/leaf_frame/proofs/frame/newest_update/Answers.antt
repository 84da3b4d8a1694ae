use Rattle.std.proofs.Common.{◌∙◌, List, None, ap, sym}
use Rattle.std.specs.Prelude.{option_copied}
use Rattle.update_chain.specs.declared.update.Update.{Update}
use Rattle.update_chain.specs.Writing.{newest_of}
use Rattle.leaf_frame.proofs.Slots.{first_is_newest, lent_chain, never_unlent, newest_none}
use Rattle.leaf_frame.proofs.frame.newest_update.Goals as goal

pub returns-in_err-slot : goal.returns-in_err-slot
returns-in_err-slot c = ap option_copied c.from_residual.ensures ∙ newest_none c.args.key.now c.args.chains.now (sym c.in_err-slot.ensures)

pub returns-in_err-chain : goal.returns-in_err-chain
returns-in_err-chain c = absurd (never_unlent c.args.key.now c.args.chains.now c.in_ok-slot.slot (sym c.in_ok-slot.ensures) c.in_err-chain.ensures)

pub returns : goal.returns
returns c =
    c.newest.ensures
    ∙ (first_is_newest c.in_ok-chain.chain.now
    ∙ ap (λ (l : List Update). newest_of l None) (lent_chain c.args.key.now c.args.chains.now c.in_ok-slot.slot c.in_ok-chain.chain.now (sym c.in_ok-slot.ensures) c.in_ok-chain.ensures))
