use Rattle.std.proofs.Common.{◌+◌, ◌*◌, ◌^◌, refl, arith}
use Rattle.tree_dir.specs.Slots.{new_leaf}
use Rattle.tree_dir.proofs.SlotLemmas.{set-changed}
use Rattle.tree_dir.proofs.replacing.put_in.Goals as goal

pub returns : goal.returns
returns c =
    let leaf = new_leaf c.args.table (c.args.serial * 2 ^ 28 + c.args.slot) c.args.entry in
    set-changed c.args.slot (λ x. leaf) c.args.slots.now.items leaf (omega (arith, c.requires.slot)) refl
