-- The names of a leaf's updates.
use Rattle.std.specs.Prelude.{◌≡◌, ℕ, false, List}
use Rattle.std.specs.List.{AllByRecursion}
use Rattle.stamp.specs.declared.Name.{Name}
use Rattle.snapshot.specs.Past.{is_below}
use Rattle.update_chain.specs.declared.update.Update.{Update}
use Rattle.leaf_chains.specs.declared.slot.KeyChain.{KeyChain}
use Rattle.leaf_chains.specs.Slots.{chain_at}

-- this name is below the name of no update of any key
abbrev pub NoneAbove : Name → List KeyChain → Type 0
NoneAbove name slots = (key : List ℕ) → AllByRecursion (λ (u : Update). is_below name u.version.window.name ≡ false) (chain_at key slots)
